use Rattle.std.proofs.Common.{length, map, take}
use Rattle.net_facts.specs.Facts.{IsRangeOf}
use Rattle.net_facts.proofs.facts.degrees.Given as goal

abbrev pub invariant-loop-node : goal.invariant-loop-node
invariant-loop-node l = IsRangeOf (map length (take l.node l.network)) l.range
