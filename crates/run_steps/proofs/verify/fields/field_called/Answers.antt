use Rattle.std.proofs.Common.{arith}
use Rattle.std.proofs.lemmas.List.{length-map}
use Rattle.rule_check.specs.Value.{names_of}
use Rattle.run_steps.proofs.verify.Words.{field-few}
use Rattle.run_steps.proofs.verify.fields.field_called.Goals as goal

pub returns-clause-few : goal.returns-clause-few
returns-clause-few c =
    let rules = c.args.program.now in
    let names = length-map rules.fields (λ f. f.name) in
    let count = c.field_count-fields.ensures.count in
    let few = c.field_count-fields.ensures.few in
    field-few (names_of rules) c.args.name.now c.field_index.result (omega arith) c.field_index.ensures.index
