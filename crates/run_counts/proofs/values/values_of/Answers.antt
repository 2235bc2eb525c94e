use Rattle.std.proofs.Common.{◌∙◌, ◌++◌, List, ℕ, ap, subst, IfOk}
use Rattle.std.specs.List.{flat_map}
use Rattle.run_counts.specs.Rows.{AreOnce, keys_of}
use Rattle.run_counts.proofs.values.values_of.Goals as goal

pub returns : goal.returns
returns c = record {
  values =
      subst (λ (all : List ℕ). IfOk c.once.result (λ values. AreOnce all values.items))
      (c.in_ok-put_all_keys.ensures.keys ∙ ap (λ (xs : List ℕ). xs ++ flat_map keys_of c.args.rows.now) c.in_ok-keys.ensures.states) c.once.ensures.once;
}
