use Rattle.std.proofs.Common.{take}
use Rattle.net_random.specs.Changed.{ArePairsOf}
use Rattle.net_random.proofs.changed.pairs_of.Given as goal

abbrev pub invariant-loop-link : goal.invariant-loop-link
invariant-loop-link l = ArePairsOf (take l.link-index l.links) l.pairs.keys
