use Rattle.std.proofs.Common.{◌≡◌, drop}
use Rattle.net_initial.specs.Opened.{pairs_at}
use Rattle.net_initial.proofs.field_sets.pairs_at.Given as goal

abbrev pub invariant-loop-set : goal.invariant-loop-set
invariant-loop-set l = pairs_at (drop l.set-index l.sets) l.field ≡ pairs_at l.sets l.field
