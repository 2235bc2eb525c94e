-- How tallies stand after occasions.
use Rattle.std.proofs.Common.{◌≡◌, ℕ, ◌+◌, List, [], ◌∷◌, ◌++◌, map, suc, zero, refl, sym, ap, ◌∙◌, arith, add-zero, zero-add}
use Rattle.std.specs.Prelude.{Bool, true, false, if◌then◌else◌, cond}
use Rattle.std.specs.List.{fold, filter, flat_map, range_with_len}
use Rattle.std.proofs.lemmas.List.{append-nil}
use Rattle.std.proofs.lemmas.List.Sums.{fold_push}
use Rattle.std.proofs.lemmas.Grind.{flat_map-append}
use Rattle.std.proofs.lemmas.List.FromFn.{filter_of_map_range_with_len_more}
use Rattle.rule_check.specs.Value.{Here}
use Rattle.rounds_plan.specs.Plans.{PlanView}
use Rattle.rounds_walk.specs.Walking.{RoundView}
use Rattle.run_cuts.specs.declared.tally.Tally.{Tally}
use Rattle.run_cuts.specs.declared.tally.Counted.{Counted}
use Rattle.run_cuts.specs.Operators.{OperatorTree}
use Rattle.run_cuts.specs.Cuts.{Occasion, occasion, here_in, is_cut, step_occasions}
use Rattle.run_cuts.specs.Counting.{after_all, after_one, noted, operator_of}

-- the same operator with another tally
abbrev with_tally : Counted → Tally → Counted
with_tally c t = record { number = c.number; operator = c.operator; tally = t }

-- a list changed twice
map_twice : (f g h : Counted → Counted) → ((c : Counted) → f (g c) ≡ h c) → (cs : List Counted) → map f (map g cs) ≡ map h cs
map_twice f g h same [] = refl
map_twice f g h same (c ∷ cs) = ap (λ d. d ∷ map f (map g cs)) (same c) ∙ ap (λ ds. h c ∷ ds) (map_twice f g h same cs)

-- after none
pub none_yet : (cs : List Counted) → map (after_all (λ op. [])) cs ≡ cs
none_yet [] = refl
none_yet (c ∷ cs) = ap (λ ds. c ∷ ds) (none_yet cs)

-- after one occasion more, or none
one_turn : (b : Bool) (os : List Occasion) (o : Occasion) (c : Counted)
    → (if b then with_tally c (noted (fold noted c.tally os) o) else with_tally c (fold noted c.tally os)) ≡ with_tally c (fold noted c.tally (os ++ cond b (o ∷ []) []))
one_turn true os o c = ap (with_tally c) (sym (fold_push noted c.tally os o))
one_turn false os o c = ap (λ (xs : List Occasion). with_tally c (fold noted c.tally xs)) (sym (append-nil os))

-- the occasions of a step at the first nodes
abbrev pub at_first : PlanView → ℕ → ℕ → OperatorTree → List Occasion
at_first p t u op = filter (λ o. is_cut (here_in p t o.node) op) (map (occasion t) (range_with_len 0 u))

-- at one node more
pub node_turn : (p : PlanView) (t u : ℕ) (here : Here) (cs : List Counted) → here ≡ here_in p t u
    → map (after_one here (occasion t u)) (map (after_all (at_first p t u)) cs) ≡ map (after_all (at_first p t (u + 1))) cs
node_turn p t u here cs there =
    map_twice (after_one here (occasion t u)) (after_all (at_first p t u)) (after_all (at_first p t (u + 1)))
    (λ c.
    let op : OperatorTree = operator_of c.operator in
    one_turn (is_cut here op) (at_first p t u op) (occasion t u) c
    ∙ ap (λ (h : Here). with_tally c (fold noted c.tally (at_first p t u op ++ cond (is_cut h op) (occasion t u ∷ []) []))) there
    ∙ ap (λ (os : List Occasion). with_tally c (fold noted c.tally os))
    (sym (filter_of_map_range_with_len_more (λ o. is_cut (here_in p t o.node) op) (occasion t) 0 u u (zero-add u))))
    cs

fold_append : (tally : Tally) (xs ys : List Occasion) → fold noted (fold noted tally xs) ys ≡ fold noted tally (xs ++ ys)
fold_append tally [] ys = refl
fold_append tally (x ∷ xs) ys = fold_append (noted tally x) xs ys

range_more : (a n : ℕ) → range_with_len a (suc n) ≡ range_with_len a n ++ (a + n) ∷ []
range_more a zero = ap (λ x. x ∷ []) (sym (add-zero a))
range_more a (suc n) =
    let e : a + 1 + n ≡ a + suc n = omega arith in
    ap (λ xs. a ∷ xs) (range_more (a + 1) n ∙ ap (λ x. range_with_len (a + 1) n ++ x ∷ []) e)

-- the occasions of the first steps from the start on
abbrev pub in_first : PlanView → ℕ → OperatorTree → List Occasion
in_first p n op = flat_map (step_occasions p op) (range_with_len p.start n)

in_more : (p : PlanView) (n : ℕ) (op : OperatorTree) → in_first p n op ++ step_occasions p op (p.start + n) ≡ in_first p (suc n) op
in_more p n op =
    let f : ℕ → List Occasion = step_occasions p op in
    ap (λ xs. flat_map f (range_with_len p.start n) ++ xs) (sym (append-nil (f (p.start + n))))
    ∙ sym (flat_map-append f (range_with_len p.start n) ((p.start + n) ∷ []))
    ∙ ap (flat_map f) (sym (range_more p.start n))

-- after one step more
pub step_turn : (p : PlanView) (t m n : ℕ) (cs : List Counted) → t ≡ p.start + n → m ≡ suc n
    → map (after_all (λ op. step_occasions p op t)) (map (after_all (in_first p n)) cs) ≡ map (after_all (in_first p m)) cs
step_turn p t m n cs is next =
    map_twice (after_all (λ op. step_occasions p op t)) (after_all (in_first p n)) (after_all (in_first p m))
    (λ c.
    let op : OperatorTree = operator_of c.operator in
    let joined : in_first p n op ++ step_occasions p op t ≡ in_first p m op =
    ap (λ r. in_first p n op ++ step_occasions p op r) is ∙ in_more p n op ∙ ap (λ k. in_first p k op) (sym next) in
    ap (with_tally c) (fold_append c.tally (in_first p n op) (step_occasions p op t) ∙ ap (λ (os : List Occasion). fold noted c.tally os) joined))
    cs

-- a walk over a plan that stands at a round
abbrev pub standing_at : PlanView → ℕ → RoundView
standing_at p t = record { plan = p; round = t }
