use Rattle.std.proofs.Common.{rules, ◌≡◌, ◌∙◌, ◌+◌, ◌<◌, drop, length, sym, ap, Ok, Err, arith}
use Rattle.std.proofs.lemmas.List.{length-map}
use Rattle.rule_check.specs.Value.{names_of}
use Rattle.serde_json.specs.Find.{get}
use Rattle.serde_json.specs.View.{view}
use Rattle.run_steps.specs.verify.Fields.{and_then}
use Rattle.run_steps.specs.verify.Objects.{with_member, with_fields}
use Rattle.run_steps.proofs.verify.Members.{name-next, fields-next}
use Rattle.run_steps.proofs.verify.objects.with_fields.Goals as goal

pub returns-in_err-given : goal.returns-in_err-given
returns-in_err-given c =
    let rules_of = c.args.program.now in
    let names = names_of rules_of in
    let d = view c.args.state.now in
    let k = c.loop-field.field in
    let name = c.unwrap_or-name.result in
    let many = length-map rules_of.fields (λ f. f.name) in
    let count = c.field_count-field-end.ensures.count in
    let test = c.loop-field-test.true in
    let less : k < length names = omega arith in
    let front = name-next names k name _ c.field_name.result less c.field_name.ensures.name c.unwrap_or-name.ensures in
    let step = fields-next c.args.line k d c.loop-field.given (drop k names) (drop (k + 1) names) name.now front in
    let member : with_member c.args.line c.loop-field.given k (get name.now d) ≡ Err c.in_err-given.field-0.0 = sym (c.in_err-given.ensures ∙ ap (with_member c.args.line c.loop-field.given k) c.get.ensures) in
    let stops : with_fields c.args.line d c.loop-field.given k (drop k names) ≡ Err c.in_err-given.field-0.0 = step ∙ ap (λ r. and_then r (λ more. with_fields c.args.line d more (k + 1) (drop (k + 1) names))) member in
    let all = sym stops ∙ c.loop-field.invariant in
    search rules

pub loop-field-preserved : goal.loop-field-preserved
loop-field-preserved c =
    let rules_of = c.args.program.now in
    let names = names_of rules_of in
    let d = view c.args.state.now in
    let k = c.loop-field.field in
    let name = c.unwrap_or-name.result in
    let many = length-map rules_of.fields (λ f. f.name) in
    let count = c.field_count-field-end.ensures.count in
    let test = c.loop-field-test.true in
    let less : k < length names = omega arith in
    let front = name-next names k name _ c.field_name.result less c.field_name.ensures.name c.unwrap_or-name.ensures in
    let step = fields-next c.args.line k d c.loop-field.given (drop k names) (drop (k + 1) names) name.now front in
    let member : with_member c.args.line c.loop-field.given k (get name.now d) ≡ Ok c.in_ok-given.given = sym (c.in_ok-given.ensures ∙ ap (with_member c.args.line c.loop-field.given k) c.get.ensures) in
    sym (step ∙ ap (λ r. and_then r (λ more. with_fields c.args.line d more (k + 1) (drop (k + 1) names))) member) ∙ c.loop-field.invariant
