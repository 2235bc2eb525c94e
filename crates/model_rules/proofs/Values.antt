-- The values of terms.
use Rattle.std.proofs.Common.{◌≡◌, ℕ, suc, zero, List, [], ◌∷◌, refl, ap, ◌∙◌}
use Rattle.std.specs.Prelude.{map, ◌==◌, if◌then◌else◌, Bool, true, false, ◌||◌, slice_get, slice_index}
use Rattle.std.specs.List.{AllByRecursion}
use Rattle.rule_check.specs.declared.state.Near.{Near}
use Rattle.rule_check.specs.Table.{operate, gather}
use Rattle.rule_check.specs.Value.{Here, value, alone}
use Rattle.model_rules.specs.Terms.{TermTree, NumberTerm, OwnTerm, IdTerm, DegreeTerm, RoundTerm, ParameterTerm, NearTerm, NearIdTerm, NearWeightTerm, InfixTerm, NotTerm, OverTerm, ChoiceTerm, term_value, gathers, looks, knows_degree, term_or, filled, seen_near, lowered}
use Rattle.model_rules.specs.Meaning.{beside}

-- where one of two does not hold, neither does
pub neither : (a b : Bool) → (a || b) ≡ false → (a ≡ false) × (b ≡ false)
neither true b h = cc
neither false b h = (refl, h)

-- the same value at each element
pub map_same : {A B : Type 0} (f g : A → B) (xs : List A) → ((x : A) → f x ≡ g x) → map f xs ≡ map g xs
map_same f g [] e = refl
map_same f g (x ∷ xs) e = ap (λ y. y ∷ map f xs) (e x) ∙ ap (λ ys. g x ∷ ys) (map_same f g xs e)

-- a choice by equal values
pub choice_same : (a b c x y z : ℕ) → a ≡ x → b ≡ y → c ≡ z → (if a == 0 then c else b) ≡ (if x == 0 then z else y)
choice_same a b c x y z p q r = ap (λ v. if v == 0 then c else b) p ∙ (ap (λ v. if x == 0 then v else b) r ∙ ap (λ v. if x == 0 then z else v) q)

-- what does not look at the neighbour is worth the same at each
pub steady : (here : Here) (xs : List ℕ) (t : TermTree) (m n : Near) → looks t ≡ false → term_value here xs t m ≡ term_value here xs t n
steady here xs (NumberTerm k) m n h = refl
steady here xs (OwnTerm name) m n h = refl
steady here xs IdTerm m n h = refl
steady here xs DegreeTerm m n h = refl
steady here xs RoundTerm m n h = refl
steady here xs (ParameterTerm k) m n h = refl
steady here xs (NearTerm name) m n h = cc
steady here xs NearIdTerm m n h = cc
steady here xs NearWeightTerm m n h = cc
steady here xs (InfixTerm op a b) m n h =
    let e = neither (looks a) (looks b) h in
    ap (λ v. operate op v (term_value here xs b m)) (steady here xs a m n e.0) ∙ ap (operate op (term_value here xs a n)) (steady here xs b m n e.1)
steady here xs (NotTerm e) m n h = ap (λ v. if v == 0 then 1 else 0) (steady here xs e m n h)
steady here xs (OverTerm agg e) m n h = refl
steady here xs (ChoiceTerm a b c) m n h =
    let e = neither (looks a) (looks b || looks c) h in
    let f = neither (looks b) (looks c) e.1 in
    choice_same (term_value here xs a m) (term_value here xs b m) (term_value here xs c m) (term_value here xs a n) (term_value here xs b n) (term_value here xs c n) (steady here xs a m n e.0) (steady here xs b m n f.0) (steady here xs c m n f.1)

-- the values of terms at a neighbour
abbrev pub values_at : Here → List ℕ → List TermTree → Near → List ℕ
values_at here xs ts near = map (λ t. term_value here xs t near) ts

-- terms of which none looks at the neighbour
abbrev pub Steady : List TermTree → Type 0
Steady ts = AllByRecursion (λ t. looks t ≡ false) ts

pub steady_values : (here : Here) (xs : List ℕ) (ts : List TermTree) (m n : Near) → Steady ts → values_at here xs ts m ≡ values_at here xs ts n
steady_values here xs [] m n h = refl
steady_values here xs (t ∷ ts) m n h = ap (λ v. v ∷ values_at here xs ts m) (steady here xs t m n h.0) ∙ ap (λ vs. term_value here xs t n ∷ vs) (steady_values here xs ts m n h.1)

-- the term at a place has the value at that place
pub value_of_argument : (here : Here) (xs : List ℕ) (ts : List TermTree) (k : ℕ) (near : Near) → term_value here xs (term_or (slice_get ts k)) near ≡ slice_index (values_at here xs ts near) k
value_of_argument here xs [] k near = refl
value_of_argument here xs (t ∷ ts) zero near = refl
value_of_argument here xs (t ∷ ts) (suc k) near = value_of_argument here xs ts k near

-- a term without aggregates, filled
pub filled_flat : (here : Here) (xs : List ℕ) (ts : List TermTree) (t : TermTree) (near : Near) → gathers t ≡ false → term_value here xs (filled ts t) near ≡ term_value here (values_at here xs ts near) t near
filled_flat here xs ts (NumberTerm k) near h = refl
filled_flat here xs ts (OwnTerm name) near h = refl
filled_flat here xs ts IdTerm near h = refl
filled_flat here xs ts DegreeTerm near h = refl
filled_flat here xs ts RoundTerm near h = refl
filled_flat here xs ts (ParameterTerm k) near h = value_of_argument here xs ts k near
filled_flat here xs ts (NearTerm name) near h = refl
filled_flat here xs ts NearIdTerm near h = refl
filled_flat here xs ts NearWeightTerm near h = refl
filled_flat here xs ts (InfixTerm op a b) near h =
    let e = neither (gathers a) (gathers b) h in
    let ys = values_at here xs ts near in
    ap (λ v. operate op v (term_value here xs (filled ts b) near)) (filled_flat here xs ts a near e.0) ∙ ap (operate op (term_value here ys a near)) (filled_flat here xs ts b near e.1)
filled_flat here xs ts (NotTerm e) near h = ap (λ v. if v == 0 then 1 else 0) (filled_flat here xs ts e near h)
filled_flat here xs ts (OverTerm agg e) near h = cc
filled_flat here xs ts (ChoiceTerm a b c) near h =
    let e = neither (gathers a) (gathers b || gathers c) h in
    let f = neither (gathers b) (gathers c) e.1 in
    choice_same _ _ _ _ _ _ (filled_flat here xs ts a near e.0) (filled_flat here xs ts b near f.0) (filled_flat here xs ts c near f.1)

-- a term filled with terms that do not look at the neighbour
pub filled_steady : (here : Here) (xs : List ℕ) (ts : List TermTree) (t : TermTree) (near : Near) → Steady ts → term_value here xs (filled ts t) near ≡ term_value here (values_at here xs ts near) t near
filled_steady here xs ts (NumberTerm k) near h = refl
filled_steady here xs ts (OwnTerm name) near h = refl
filled_steady here xs ts IdTerm near h = refl
filled_steady here xs ts DegreeTerm near h = refl
filled_steady here xs ts RoundTerm near h = refl
filled_steady here xs ts (ParameterTerm k) near h = value_of_argument here xs ts k near
filled_steady here xs ts (NearTerm name) near h = refl
filled_steady here xs ts NearIdTerm near h = refl
filled_steady here xs ts NearWeightTerm near h = refl
filled_steady here xs ts (InfixTerm op a b) near h =
    let ys = values_at here xs ts near in
    ap (λ v. operate op v (term_value here xs (filled ts b) near)) (filled_steady here xs ts a near h) ∙ ap (operate op (term_value here ys a near)) (filled_steady here xs ts b near h)
filled_steady here xs ts (NotTerm e) near h = ap (λ v. if v == 0 then 1 else 0) (filled_steady here xs ts e near h)
filled_steady here xs ts (OverTerm agg e) near h =
    let ys = values_at here xs ts near in
    ap (gather agg) (map_same (term_value here xs (filled ts e)) (term_value here ys e) here.nears (λ m. filled_steady here xs ts e m h ∙ ap (λ vs. term_value here vs e m) (steady_values here xs ts m near h)))
filled_steady here xs ts (ChoiceTerm a b c) near h =
    choice_same _ _ _ _ _ _ (filled_steady here xs ts a near h) (filled_steady here xs ts b near h) (filled_steady here xs ts c near h)

-- a term as seen from a neighbour is worth what it is there
pub seen_value : (here : Here) (xs : List ℕ) (t : TermTree) (near : Near) → knows_degree t ≡ false → looks t ≡ false → term_value here xs (seen_near t) near ≡ term_value (beside here near) [] t (alone near.id near.state)
seen_value here xs (NumberTerm k) near h g = refl
seen_value here xs (OwnTerm name) near h g = refl
seen_value here xs IdTerm near h g = refl
seen_value here xs DegreeTerm near h g = cc
seen_value here xs RoundTerm near h g = refl
seen_value here xs (ParameterTerm k) near h g = refl
seen_value here xs (NearTerm name) near h g = cc
seen_value here xs NearIdTerm near h g = cc
seen_value here xs NearWeightTerm near h g = cc
seen_value here xs (InfixTerm op a b) near h g =
    let e = neither (knows_degree a) (knows_degree b) h in
    let f = neither (looks a) (looks b) g in
    ap (λ v. operate op v (term_value here xs (seen_near b) near)) (seen_value here xs a near e.0 f.0) ∙ ap (operate op (term_value (beside here near) [] a (alone near.id near.state))) (seen_value here xs b near e.1 f.1)
seen_value here xs (NotTerm e) near h g = ap (λ v. if v == 0 then 1 else 0) (seen_value here xs e near h g)
seen_value here xs (OverTerm agg e) near h g = cc
seen_value here xs (ChoiceTerm a b c) near h g =
    let e = neither (knows_degree a) (knows_degree b || knows_degree c) h in
    let f = neither (knows_degree b) (knows_degree c) e.1 in
    let i = neither (looks a) (looks b || looks c) g in
    let j = neither (looks b) (looks c) i.1 in
    choice_same _ _ _ _ _ _ (seen_value here xs a near e.0 i.0) (seen_value here xs b near f.0 j.0) (seen_value here xs c near f.1 j.1)

-- the expression that a term is has its value
pub lowered_value : (here : Here) (t : TermTree) (near : Near) → value here (lowered t) near ≡ term_value here [] t near
lowered_value here (NumberTerm k) near = refl
lowered_value here (OwnTerm name) near = refl
lowered_value here IdTerm near = refl
lowered_value here DegreeTerm near = refl
lowered_value here RoundTerm near = refl
lowered_value here (ParameterTerm k) near = refl
lowered_value here (NearTerm name) near = refl
lowered_value here NearIdTerm near = refl
lowered_value here NearWeightTerm near = refl
lowered_value here (InfixTerm op a b) near = ap (λ v. operate op v (value here (lowered b) near)) (lowered_value here a near) ∙ ap (operate op (term_value here [] a near)) (lowered_value here b near)
lowered_value here (NotTerm e) near = ap (λ v. if v == 0 then 1 else 0) (lowered_value here e near)
lowered_value here (OverTerm agg e) near = ap (gather agg) (map_same (value here (lowered e)) (term_value here [] e) here.nears (λ m. lowered_value here e m))
lowered_value here (ChoiceTerm a b c) near = choice_same _ _ _ _ _ _ (lowered_value here a near) (lowered_value here b near) (lowered_value here c near)
