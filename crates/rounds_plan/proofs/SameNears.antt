-- What a node's neighbours depend on.
use Rattle.std.proofs.Common.{◌≡◌, ◌<◌, ℕ, suc, List, [], ◌∷◌, length, map, get_or, refl, ap, ◌∙◌, arith}
use Rattle.rule_check.specs.declared.state.State.{State}
use Rattle.rounds_plan.specs.Rounds.{near_at}

-- equal states at all neighbours give equal neighbours
pub near_same : (f g : ℕ → State) (row : List (ℕ × ℕ)) → ((j : ℕ) → j < length row → f (get_or row j (0, 0)).0 ≡ g (get_or row j (0, 0)).0) → map (near_at f) row ≡ map (near_at g) row
near_same f g [] same = refl
near_same f g (a ∷ row) same =
    ap (λ s. record { id = a.0; weight = a.1; state = s } ∷ map (near_at f) row) (same 0 (omega arith))
    ∙ ap (λ ns. near_at g a ∷ ns) (near_same f g row (λ j h. same (suc j) (omega arith)))
