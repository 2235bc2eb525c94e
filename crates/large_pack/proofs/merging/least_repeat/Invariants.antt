use Rattle.std.proofs.Common.{◌≡◌, drop}
use Rattle.large_pack.specs.Ranks.{repeat_behind, least_repeat}
use Rattle.large_pack.proofs.merging.least_repeat.Given as goal

abbrev pub invariant-loop-edge : goal.invariant-loop-edge
invariant-loop-edge l = repeat_behind l.head l.repeat (drop l.edge-index l.rest) ≡ least_repeat l.edges
