-- Numbers that stand twice, found by marks.
use Rattle.std.proofs.Common.{◌≡◌, ℕ, ◌<◌, ◌==◌, Bool, true, false, not, ◌||◌, List, [], ◌∷◌, length, set, get_or, replicate, refl, sym, ap, ◌∙◌, arith, get_or-set_same, get_or-set_other, subst, ℤ, pos, negsuc, rules}
use Rattle.std.proofs.lemmas.List.{length-set, get_or-replicate}
use Rattle.std.specs.List.{list_any, AllByRecursion}
use Rattle.rounds_plan.specs.Plans.{has_number_twice, is_below, number_of, nodes_in}

-- some number is marked, or stands twice
abbrev pub twice_from : List Bool → List ℕ → Bool
twice_from seen [] = false
twice_from seen (x ∷ xs) = get_or seen x false || twice_from (set seen x true) xs

abbrev pub AllBelow : ℕ → List ℕ → Type 0
AllBelow n xs = AllByRecursion (λ x. x < n) xs

abbrev pub marked : List Bool → List ℕ → Bool
marked seen xs = list_any (λ y. get_or seen y false) xs

or_mid : (a b c d : Bool) → (a || ((c || b) || d)) ≡ ((a || b) || (c || d))
or_mid true b c d = refl
or_mid false true true d = refl
or_mid false true false d = refl
or_mid false false true d = refl
or_mid false false false d = refl

or_swap : (a b c d : Bool) → ((a || b) || (c || d)) ≡ ((a || c) || (b || d))
or_swap true b c d = refl
or_swap false true true d = refl
or_swap false true false d = refl
or_swap false false true d = refl
or_swap false false false d = refl

mark_at : (seen : List Bool) (x y : ℕ) → x < length seen → get_or (set seen x true) y false ≡ ((y == x) || get_or seen y false)
mark_at seen x y h = grind (arith, get_or-set_same, get_or-set_other)

marked_more : (seen : List Bool) (x : ℕ) (xs : List ℕ) → x < length seen → marked (set seen x true) xs ≡ (list_any (λ y. y == x) xs || marked seen xs)
marked_more seen x [] h = refl
marked_more seen x (y ∷ ys) h =
    ap (λ b. b || marked (set seen x true) ys) (mark_at seen x y h)
    ∙ ap (λ b. ((y == x) || get_or seen y false) || b) (marked_more seen x ys h)
    ∙ or_swap (y == x) (get_or seen y false) (list_any (λ z. z == x) ys) (marked seen ys)

pub twice_any : (seen : List Bool) (xs : List ℕ) → AllBelow (length seen) xs → twice_from seen xs ≡ (marked seen xs || has_number_twice xs)
twice_any seen [] h = refl
twice_any seen (x ∷ xs) h =
    let kept : length (set seen x true) ≡ length seen = length-set seen x true in
    ap (λ b. get_or seen x false || b) (twice_any (set seen x true) xs (subst (λ n. AllBelow n xs) (sym kept) h.1))
    ∙ ap (λ b. get_or seen x false || (b || has_number_twice xs)) (marked_more seen x xs h.0)
    ∙ or_mid (get_or seen x false) (marked seen xs) (list_any (λ y. y == x) xs) (has_number_twice xs)

unmarked : (n : ℕ) (xs : List ℕ) → AllBelow n xs → marked (replicate n false) xs ≡ false
unmarked n [] h = refl
unmarked n (x ∷ xs) h = ap (λ b. b || marked (replicate n false) xs) (get_or-replicate n x false false h.0) ∙ unmarked n xs h.1

pub either : (b c : Bool) → (b || c) ≡ false → (b ≡ false) × (c ≡ false)
either true c h = cc
either false c h = (refl, h)

good_below : (n : ℕ) (z : ℤ) → not (is_below n z) ≡ false → number_of z < n
good_below n (pos k) h = search rules
good_below n (negsuc k) h = cc

pub nodes_below : (n : ℕ) (pairs : List (ℤ × ℤ)) → list_any (λ p. not (is_below n p.0)) pairs ≡ false → AllBelow n (nodes_in pairs)
nodes_below n [] h = tt
nodes_below n (p ∷ pairs) h =
    let parts = either (not (is_below n p.0)) (list_any (λ q. not (is_below n q.0)) pairs) h in
    (good_below n p.0 parts.0, nodes_below n pairs parts.1)

-- with no mark so far, the marks find exactly what stands twice
pub fresh_twice : (seen : List Bool) (pairs : List (ℤ × ℤ)) → seen ≡ replicate (length seen) false → list_any (λ p. not (is_below (length seen) p.0)) pairs ≡ false → twice_from seen (nodes_in pairs) ≡ has_number_twice (nodes_in pairs)
fresh_twice seen pairs fresh good =
    let below = nodes_below (length seen) pairs good in
    twice_any seen (nodes_in pairs) below
    ∙ ap (λ b. b || has_number_twice (nodes_in pairs)) (ap (λ s. marked s (nodes_in pairs)) fresh ∙ unmarked (length seen) (nodes_in pairs) below)
