-- The value that a list of pairs gives a node, with one pair more.
use Rattle.std.proofs.Common.{◌≡◌, ℕ, ℤ, ◌==◌, Bool, true, false, List, [], ◌∷◌, ◌++◌, Option, Some, None, refl, sym, ap, ◌∙◌, ◌<◌, ◌≢◌, length, set, get_or, get_or-set_same, get_or-set_other, inl, inr, if◌then◌else◌}
use Rattle.std.proofs.lemmas.List.{set-set, get_or_default}
use Rattle.std.proofs.lemmas.Bool.Decides.{eqb_tells}
use Rattle.rule_check.specs.declared.state.State.{State}
use Rattle.rounds_plan.specs.Configs.{blank}
use Rattle.rounds_plan.specs.Opening.{with_value}
use Rattle.std.specs.Option.{option_or}
use Rattle.rounds_plan.specs.Plans.{number_of, value_in}

later : (o : Option ℕ) (b c : Bool) (v w : ℕ) → option_or (if b then Some v else o) (if c then Some w else None) ≡ (if b then Some v else option_or o (if c then Some w else None))
later o true c v w = refl
later o false c v w = refl

pub value_in-more : (pairs : List (ℤ × ℤ)) (p : ℤ × ℤ) (u : ℕ) → value_in (pairs ++ p ∷ []) u ≡ (if number_of p.0 == u then Some (number_of p.1) else value_in pairs u)
value_in-more [] p u = refl
value_in-more (q ∷ pairs) p u =
    ap (λ o. option_or o (if number_of q.0 == u then Some (number_of q.1) else None)) (value_in-more pairs p u)
    ∙ later (value_in pairs u) (number_of p.0 == u) (number_of q.0 == u) (number_of p.1) (number_of q.1)

again : (k v : ℕ) (o : Option ℕ) (state : State) → with_value k (Some v) (with_value k o state) ≡ with_value k (Some v) state
again k v None state = refl
again k v (Some w) state = ap (λ words. record { words = words }) (set-set state.words k w v)

-- a value written into the state of one node
pub put_more : (k : ℕ) (states : List State) (node value : ℕ) (pairs : List (ℤ × ℤ)) (p : ℤ × ℤ) (u : ℕ) (d state : State) → number_of p.0 ≡ node → number_of p.1 ≡ value → node < length states → get_or states u blank ≡ with_value k (value_in pairs u) state → get_or (set states node (with_value k (Some value) (get_or states node d))) u blank ≡ with_value k (value_in (pairs ++ p ∷ []) u) state
put_more k states node value pairs p u d state at is inside before =
    elim (eqb_tells (number_of p.0) u) [
      | inl h ↦
          let same : node ≡ u = sym at ∙ h.1 in
          ap (λ i. get_or (set states node (with_value k (Some value) (get_or states node d))) i blank) (sym same)
          ∙ get_or-set_same states node _ blank inside
          ∙ ap (with_value k (Some value)) (get_or_default states node d blank inside ∙ ap (λ i. get_or states i blank) same ∙ before)
          ∙ again k value (value_in pairs u) state
          ∙ ap (λ v. with_value k (Some v) state) (sym is)
          ∙ ap (λ b. with_value k (if b then Some (number_of p.1) else value_in pairs u) state) (sym h.0)
          ∙ ap (λ o. with_value k o state) (sym (value_in-more pairs p u))
      | inr h ↦
          let other : u ≢ node = λ e. h.1 (at ∙ sym e) in
          get_or-set_other states node u _ blank other
          ∙ before
          ∙ ap (λ b. with_value k (if b then Some (number_of p.1) else value_in pairs u) state) (sym h.0)
          ∙ ap (λ o. with_value k o state) (sym (value_in-more pairs p u))
    ]
