use Rattle.std.proofs.Common.{◌≡◌, drop}
use Rattle.large_pack.specs.Keys.{repeats_after, repeats}
use Rattle.large_pack.proofs.keys.has_repeat.Given as goal

abbrev pub invariant-loop-key : goal.invariant-loop-key
invariant-loop-key l = repeats_after l.last (drop l.key-index l.rest) ≡ repeats l.keys
