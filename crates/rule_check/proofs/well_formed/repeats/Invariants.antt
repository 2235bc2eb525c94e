use Rattle.std.proofs.Common.{◌≡◌, drop}
use Rattle.rule_check.specs.WellFormed.{has_twice}
use Rattle.rule_check.specs.Fields.{field_names}
use Rattle.rule_check.proofs.well_formed.repeats.Given as goal

abbrev pub invariant-loop-k : goal.invariant-loop-k
invariant-loop-k l = has_twice (field_names (drop l.k l.fields)) ≡ has_twice (field_names l.fields)
