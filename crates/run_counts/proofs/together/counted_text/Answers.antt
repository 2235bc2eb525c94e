use Rattle.std.proofs.Common.{◌∙◌, ℕ, List, ap, rules, subst}
use Rattle.run_counts.specs.Ensembles.{RunView, names_in, rows_in}
use Rattle.rule_check.specs.Value.{names_of}
use Rattle.run_counts.specs.declared.ensemble.Setting.{Setting}
use Rattle.run_counts.specs.Rows.{AreValues}
use Rattle.run_counts.specs.Settings.{settings_in}
use Rattle.run_counts.specs.RunTables.{runs_text}
use Rattle.run_counts.proofs.Means.{all_fit}
use Rattle.run_counts.proofs.together.counted_text.Goals as goal

pub runs_of-requires : goal.runs_of-requires
runs_of-requires g c = (search rules, (search rules, all_fit c.args.span.now c.args.counting.now c.args.ensemble.now.variants.now c.requires.fits))

pub returns : goal.returns
returns g c =
    let e = c.args.ensemble.now in
    let counting = c.args.counting.now in
    let runs = c.in_ok-runs.runs.items in
    let values = c.in_ok-values.values.items in
    let names = names_in e.variants.now in
    let settings = settings_in e.variants.now in
    let text = λ (ss : List Setting) (ns : List (List ℕ)) (vs : List ℕ) (rs : List RunView). runs_text counting.format counting.names.now ss ns counting.figures.now vs rs in
    record {
      text = record {
        runs = runs;
        values = values;
        runs_are = c.in_ok-runs.ensures.runs;
        values_are = subst (λ (rs : List RunView). AreValues counting.states (rows_in rs) values) c.deref.ensures.value c.in_ok-values.ensures.values;
        spelled =
            c.in_ok-text.ensures.text
            ∙ ap (λ (ss : List Setting). text ss (names_of c.first_program-program.result.now) c.deref-2.result.now c.deref-3.result.now) c.first_settings.ensures.settings
            ∙ ap (λ (ns : List (List ℕ)). text settings ns c.deref-2.result.now c.deref-3.result.now) c.first_program-program.ensures.names
            ∙ ap (λ (vs : List ℕ). text settings names vs c.deref-3.result.now) c.deref-2.ensures.value
            ∙ ap (text settings names values) c.deref-3.ensures.value;
      };
    }
