use Rattle.std.proofs.Common.{◌∙◌, ℕ, List, ap, subst}
use Rattle.rule_check.specs.Value.{Rules, names_of}
use Rattle.run_counts.specs.Rows.{AreValues, RowView}
use Rattle.run_counts.specs.Tables.{table_text}
use Rattle.run_counts.proofs.counting.text_of.Goals as goal

pub returns : goal.returns
returns g c =
    let p = c.args.plan.now in
    let counting = c.args.counting.now in
    let rows = c.in_ok-rows.rows.items in
    let values = c.in_ok-values.values.items in
    let text = λ (r : Rules) (vs : List ℕ) (rs : List RowView). table_text counting.format counting.names.now (names_of r) counting.figures.now vs rs in
    record {
      text = record {
        rows = rows;
        values = values;
        rows_are = c.in_ok-rows.ensures.rows;
        values_are = subst (λ (rs : List RowView). AreValues counting.states rs values) c.deref.ensures.value c.in_ok-values.ensures.values;
        spelled =
            c.in_ok-text.ensures.text
            ∙ ap (λ (r : Rules). text r c.deref-2.result.now c.deref-3.result.now) c.program.ensures.program
            ∙ ap (λ (vs : List ℕ). text p.program vs c.deref-3.result.now) c.deref-2.ensures.value
            ∙ ap (text p.program values) c.deref-3.ensures.value;
      };
    }
