use Rattle.std.proofs.Common.{◌≡◌, ◌∙◌, ap, [], get_or, arith}
use Rattle.std.specs.Option.{unwrap_or}
use Rattle.std.proofs.lemmas.Grind.{common_steps}
use Rattle.std.proofs.lemmas.Option.{unwrap_or-slice_get}
use Rattle.rule_check.specs.Value.{names_of}
use Rattle.rounds_plan.proofs.Names.{mapped_or}
use Rattle.report_text.proofs.report_writer.put_field.Goals as goal

pub returns : goal.returns
returns c = record {
  text = let names = names_of c.args.program.now in
      let known : c.unwrap_or-name.result.now ≡ get_or names c.args.place [] =
      ap (λ n. n.now) c.unwrap_or-name.ensures ∙ mapped_or (λ n. n.now) c.field_name.result _ ∙ ap (λ o. unwrap_or o []) c.field_name.ensures.name ∙ unwrap_or-slice_get names c.args.place [] in
      grind (arith, common_steps, known);
}
