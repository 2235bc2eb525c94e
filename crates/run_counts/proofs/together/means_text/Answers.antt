use Rattle.std.proofs.Common.{◌∙◌, ℕ, List, ap, rules, subst}
use Rattle.run_counts.specs.declared.mean_columns.Column.{Column}
use Rattle.run_counts.specs.Ensembles.{RunView, names_in, rows_in}
use Rattle.run_counts.specs.MeanTables.{columns_of, means_text}
use Rattle.run_counts.specs.Rows.{AreValues}
use Rattle.run_counts.proofs.Means.{all_fit}
use Rattle.run_counts.proofs.together.means_text.Goals as goal

pub runs_of-requires : goal.runs_of-requires
runs_of-requires g c = (search rules, (search rules, all_fit c.args.span.now c.args.counting.now c.args.ensemble.now.variants.now c.requires.fits))

pub returns : goal.returns
returns g c =
    let e = c.args.ensemble.now in
    let counting = c.args.counting.now in
    let runs = c.in_ok-runs.runs.items in
    let values = c.in_ok-values.values.items in
    let names = names_in e.variants.now in
    let columns = columns_of values counting.figures.now e.quantiles.now in
    let text = λ (ns : List (List ℕ)) (cs : List Column) (rs : List RunView). means_text counting.format counting.names.now ns cs counting.until e.size e.groups.now rs in
    record {
      text = record {
        runs = runs;
        values = values;
        runs_are = c.in_ok-runs.ensures.runs;
        values_are = subst (λ (rs : List RunView). AreValues counting.states (rows_in rs) values) c.deref.ensures.value c.in_ok-values.ensures.values;
        spelled =
            c.in_ok-text.ensures.text
            ∙ ap (λ (ns : List (List ℕ)). text ns c.deref-3.result.now c.deref-4.result.now) c.first_program-program.ensures.names
            ∙ ap (λ (cs : List Column). text names cs c.deref-4.result.now)
            (c.deref-3.ensures.value ∙ c.in_ok-columns.ensures.columns ∙ ap (λ (vs : List ℕ). columns_of vs counting.figures.now e.quantiles.now) c.deref-2.ensures.value)
            ∙ ap (text names columns) c.deref-4.ensures.value;
      };
    }
