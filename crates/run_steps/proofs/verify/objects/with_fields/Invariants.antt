use Rattle.std.proofs.Common.{◌≡◌, drop}
use Rattle.rule_check.specs.Value.{names_of}
use Rattle.serde_json.specs.View.{view}
use Rattle.run_steps.specs.verify.Fields.{none_given}
use Rattle.run_steps.specs.verify.Objects.{with_fields}
use Rattle.run_steps.proofs.verify.objects.with_fields.Given as goal

abbrev pub invariant-loop-field : goal.invariant-loop-field
invariant-loop-field l =
    with_fields l.line (view l.state) l.given l.field (drop l.field (names_of l.program)) ≡ with_fields l.line (view l.state) none_given 0 (names_of l.program)
