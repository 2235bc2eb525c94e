use Rattle.std.proofs.Common.{◌*◌, ◌∙◌, ℕ, ap, length, sym}
use Rattle.rounds_walk.specs.part_rounds.Parts.{changed_count}
use Rattle.rounds_walk.specs.part_rounds.States.{states_of}
use Rattle.rounds_walk.proofs.part_rounds.round.part_round.Goals as goal

pub step-requires-clause-part : goal.step-requires-clause-part
step-requires-clause-part c =
    let checked = c.in_ok-own_nodes.ensures in
    record {
      rows = checked.rows;
      few = c.field_count.ensures.few;
      fields = c.field_count.ensures.count;
      numbers = checked.ids;
      words = checked.words ∙ ap (λ f. length c.args.rows.now * f) (sym c.field_count.ensures.count);
    }

pub returns-clause-changed : goal.returns-clause-changed
returns-clause-changed c =
    let a = c.args in
    let rules = a.program.now in
    let states = λ (fields : ℕ). states_of fields (length a.rows.now) a.from.now in
    c.step.ensures.changed
    ∙ ap (λ f. changed_count rules a.ids.now a.rows.now a.round (states f) c.in_ok-own_nodes.own_nodes) c.field_count.ensures.count
    ∙ ap (λ n. changed_count rules a.ids.now a.rows.now a.round (states (length rules.fields)) n) c.in_ok-own_nodes.ensures.own
