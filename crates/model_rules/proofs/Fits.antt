-- Rules that are fit, with one more.
use Rattle.std.proofs.Common.{ℕ, List, [], ◌∷◌, ◌++◌}
use Rattle.std.specs.List.{AllByRecursion}
use Rattle.rule_lang.specs.Tree.{ItemTree}
use Rattle.model_rules.specs.Bounds.{IsFitRule}

pub fit_more : (names : List (List ℕ)) (rules : List ItemTree) (rule : ItemTree) → AllByRecursion (IsFitRule names) rules → IsFitRule names rule → AllByRecursion (IsFitRule names) (rules ++ rule ∷ [])
fit_more names [] rule h g = (g, tt)
fit_more names (r ∷ rules) rule h g = (h.0, fit_more names rules rule h.1 g)
