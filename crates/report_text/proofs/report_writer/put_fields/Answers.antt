use Rattle.std.proofs.Common.{arith, ◌≡◌, append_assoc, length, ◌<◌}
use Rattle.std.proofs.lemmas.Grind.{common_steps}
use Rattle.rule_check.specs.Value.{names_of}
use Rattle.report_text.proofs.Texts.{fields_more}
use Rattle.rounds_plan.proofs.Names.{name_count}
use Rattle.report_text.proofs.report_writer.put_fields.Goals as goal

pub loop-place-preserved : goal.loop-place-preserved
loop-place-preserved c =
    let count = name_count c.args.program.now in
    let words : length c.args.state.now.words ≡ 8 = grind (arith, common_steps, c.type_inv.state) in
    let long : c.loop-place.place < length c.args.state.now.words = omega (arith, words, count, c.field_count-place-end.ensures.count, c.field_count-place-end.ensures.few) in
    let more = fields_more (names_of c.args.program.now) c.args.state.now.words c.loop-place.place (omega arith) long in
    grind (arith, common_steps, more, append_assoc)
