use Rattle.std.proofs.Common.{take}
use Rattle.net_facts.specs.Facts.{IsRangeOf, weights_of}
use Rattle.net_facts.proofs.facts.weights.Given as goal

abbrev pub invariant-loop-node : goal.invariant-loop-node
invariant-loop-node l = IsRangeOf (weights_of (take l.node l.network)) l.range
