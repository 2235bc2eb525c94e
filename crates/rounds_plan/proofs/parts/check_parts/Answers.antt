use Rattle.std.proofs.Common.{◌∙◌, ℕ, arith, length, sym, ap}
use Rattle.std.specs.List.{list_any}
use Rattle.rounds_plan.specs.Starts.{is_stray}
use Rattle.rounds_plan.proofs.Plain.{all_plain}
use Rattle.rounds_plan.proofs.parts.check_parts.Goals as goal

pub returns-clause-whole : goal.returns-clause-whole
returns-clause-whole c = record {
  network = c.nodes-nodes.ensures.whole;
  some = omega (arith, c.nodes-nodes.ensures.count, c.if-nodes-eq0.false);
  fields = omega (arith, c.field_count-fields.ensures.count, c.field_count-fields.ensures.few);
  opening = omega (arith, c.nodes-nodes.ensures.count, c.if-opening-nodes.false);
  plain = all_plain (length c.args.program.now.fields) c.args.opening.now (ap (λ (f : ℕ). list_any (is_stray f) c.args.opening.now) (sym c.field_count-fields.ensures.count) ∙ sym c.have_stray.ensures.exact ∙ c.if-have_stray.false);
  start = omega (arith, c.if-start-gt-MOST_ROUNDS.false);
}
