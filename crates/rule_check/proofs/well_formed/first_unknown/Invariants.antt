use Rattle.rule_lang.specs.View.{items_of}
use Rattle.std.proofs.Common.{◌≡◌, drop}
use Rattle.std.specs.List.{position_from}
use Rattle.rule_check.specs.WellFormed.{is_unknown}
use Rattle.rule_check.specs.Fields.{field_names}
use Rattle.rule_check.specs.Causes.{is_next, first_next}
use Rattle.rule_check.proofs.well_formed.first_unknown.Given as goal

abbrev pub invariant-loop-k : goal.invariant-loop-k
invariant-loop-k l = position_from (is_next (is_unknown (field_names l.fields))) l.k (items_of (drop l.k l.items)) ≡ first_next (is_unknown (field_names l.fields)) (items_of l.items)
