use Rattle.std.proofs.Common.{take}
use Rattle.std.specs.BTreeMap.{get}
use Rattle.std.specs.Ordering.{nat_cmp}
use Rattle.rounds_walk.specs.Counts.{IsTally}
use Rattle.rounds_walk.proofs.counts.tally.Given as goal

abbrev pub invariant-loop-state : goal.invariant-loop-state
invariant-loop-state l = IsTally l.field (take l.state-index l.states) (get nat_cmp l.counts)
