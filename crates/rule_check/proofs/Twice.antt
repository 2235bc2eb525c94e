-- Names that come twice, found by the set of those seen so far.
use Rattle.std.proofs.Common.{◌≡◌, ℕ, List, [], ◌∷◌, refl, sym, ap, ◌∙◌}
use Rattle.std.specs.Prelude.{Bool, true, false, ◌||◌}
use Rattle.std.specs.List.{list_any}
use Rattle.std.specs.Str.{bytes_eq}
use Rattle.std.proofs.lemmas.Slice.Eq.{bytes_eq-Decides}
use Rattle.rule_check.specs.WellFormed.{is_among, has_twice}

-- tests that hold together are equal
same_tests : (a b : Bool) → (a ≡ true → b ≡ true) → (b ≡ true → a ≡ true) → a ≡ b
same_tests true b to from = sym (to refl)
same_tests false true to from = from refl
same_tests false false to from = refl

-- bytes are compared in either order
bytes_eq-sym : (xs ys : List ℕ) → bytes_eq xs ys ≡ bytes_eq ys xs
bytes_eq-sym xs ys = same_tests (bytes_eq xs ys) (bytes_eq ys xs) (λ e. (bytes_eq-Decides ys xs).1 (sym ((bytes_eq-Decides xs ys).0 e))) (λ e. (bytes_eq-Decides xs ys).1 (sym ((bytes_eq-Decides ys xs).0 e)))

-- one more name was seen
or_exchange : (a b c d e : Bool) → a ≡ e → ((a || b) || (c || d)) ≡ ((e || c) || (b || d))
or_exchange true b c d e same = ap (λ v. (v || c) || (b || d)) same
or_exchange false true true d e same = ap (λ v. (v || true) || (true || d)) same
or_exchange false true false d e same = ap (λ v. (v || false) || (true || d)) same
or_exchange false false true d e same = ap (λ v. (v || true) || (false || d)) same
or_exchange false false false d e same = ap (λ v. (v || false) || d) same

seen_one : (before after : List ℕ → Bool) (name : List ℕ) (xs : List (List ℕ)) → ((q : List ℕ) → after q ≡ (bytes_eq name q || before q)) → list_any after xs ≡ (is_among xs name || list_any before xs)
seen_one before after name [] one = refl
seen_one before after name (x ∷ xs) one =
    ap (λ b. b || list_any after xs) (one x)
    ∙ ap (λ b. (bytes_eq name x || before x) || b) (seen_one before after name xs one)
    ∙ or_exchange (bytes_eq name x) (before x) (is_among xs name) (list_any before xs) (bytes_eq x name) (bytes_eq-sym name x)

last_step : (a b c : Bool) → ((a || b) || c) ≡ (b || (a || c))
last_step true true c = refl
last_step true false c = refl
last_step false b c = refl

-- what is left has a name twice, or one that was seen: with one name more seen as before
pub seen_more : (before after : List ℕ → Bool) (name : List ℕ) (xs : List (List ℕ)) → ((q : List ℕ) → after q ≡ (bytes_eq name q || before q)) → before name ≡ false → (list_any after xs || has_twice xs) ≡ (list_any before (name ∷ xs) || has_twice (name ∷ xs))
seen_more before after name xs one new =
    ap (λ b. b || has_twice xs) (seen_one before after name xs one)
    ∙ last_step (is_among xs name) (list_any before xs) (has_twice xs)
    ∙ ap (λ b. (b || list_any before xs) || (is_among xs name || has_twice xs)) (sym new)

-- at first none was seen
pub seen_none : (before : List ℕ → Bool) (xs : List (List ℕ)) → ((q : List ℕ) → before q ≡ false) → (list_any before xs || has_twice xs) ≡ has_twice xs
seen_none before [] none = refl
seen_none before (x ∷ xs) none = ap (λ b. b || has_twice (x ∷ xs)) (any_none (x ∷ xs))
  where
    any_none : (ys : List (List ℕ)) → list_any before ys ≡ false
    any_none [] = refl
    any_none (y ∷ ys) = ap (λ b. b || list_any before ys) (none y) ∙ any_none ys
