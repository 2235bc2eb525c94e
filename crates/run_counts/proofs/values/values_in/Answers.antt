use Rattle.std.proofs.Common.{◌∙◌, ◌++◌, List, ℕ, ap, subst, IfOk}
use Rattle.std.specs.List.{flat_map, range_with_len}
use Rattle.run_counts.specs.Ensembles.{RunView}
use Rattle.run_counts.specs.Rows.{AreOnce, keys_of}
use Rattle.run_counts.proofs.Sorting.{keys_in_runs}
use Rattle.run_counts.proofs.values.values_in.Goals as goal

pub returns : goal.returns
returns c =
    let runs = c.args.runs.now in
    let states = range_with_len 0 c.args.states in
    let keys = flat_map (λ (r : RunView). flat_map keys_of r.rows) runs in
    record {
      values =
          subst (λ (all : List ℕ). IfOk c.once.result (λ values. AreOnce all values.items))
          (c.in_ok-put_run_keys.ensures.keys ∙ ap (λ (xs : List ℕ). xs ++ keys) c.in_ok-keys.ensures.states ∙ ap (λ (xs : List ℕ). states ++ xs) (keys_in_runs runs)) c.once.ensures.once;
    }
