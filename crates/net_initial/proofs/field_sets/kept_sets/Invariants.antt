use Rattle.std.proofs.Common.{◌≡◌, take}
use Rattle.net_initial.specs.Opened.{kept_sets}
use Rattle.net_initial.proofs.field_sets.kept_sets.Given as goal

abbrev pub invariant-loop-set : goal.invariant-loop-set
invariant-loop-set l = l.kept.items ≡ kept_sets l.cleared (take l.set-index l.sets)
