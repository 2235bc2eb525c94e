use Rattle.std.proofs.Common.{◌≡◌, ◌+◌, drop}
use Rattle.rule_check.specs.Value.{place}
use Rattle.rule_check.specs.Fields.{field_names}
use Rattle.rule_check.proofs.well_formed.place_of.Given as goal

abbrev pub invariant-loop-k : goal.invariant-loop-k
invariant-loop-k l = place (field_names (drop l.k l.fields)) l.name + l.k ≡ place (field_names l.fields) l.name
