-- What is left of the numbers that are none of the values, one value more.
use Rattle.std.proofs.Common.{◌≡◌, ◌∙◌, ℕ, suc, ◌+◌, ◌<◌, ◌==◌, Bool, true, false, not, ◌||◌, cond, List, [], ◌∷◌, ◌++◌, length, take, slice_index, count_by, map, append_assoc, refl, ap, sym, arith}
use Rattle.std.proofs.Math.Seq.{take-suc}
use Rattle.std.proofs.lemmas.Bool.{eqb-true}
use Rattle.std.proofs.lemmas.List.{map-append}
use Rattle.std.proofs.lemmas.List.Folds.{list_any-append}
use Rattle.std.proofs.lemmas.List.Sums.{sum_by-cons}
use Rattle.app_calls.specs.Counted.{is_in}

-- 1 for a number that is counted
abbrev bit : Bool → ℕ
bit b = cond b 1 0

-- a number that is the new value was none of the others, where that value is not among them
less_by : (a c : Bool) → (c ≡ true → a ≡ false) → bit (not (a || (c || false))) + bit c ≡ bit (not a)
less_by false false h = refl
less_by false true h = refl
less_by true false h = refl
less_by true true h = let e : true ≡ false = h refl in absurd cc

-- and was one of them, where it is
same_by : (a c : Bool) → (c ≡ true → a ≡ true) → bit (not (a || (c || false))) ≡ bit (not a)
same_by false false h = refl
same_by false true h = let e : false ≡ true = h refl in absurd cc
same_by true c h = refl

in_more : (vs : List ℕ) (v n : ℕ) → is_in (vs ++ v ∷ []) n ≡ (is_in vs n || ((n == v) || false))
in_more vs v n = list_any-append (λ w. n == w) vs (v ∷ [])

less_one : (vs : List ℕ) (v n : ℕ) → is_in vs v ≡ false → bit (not (is_in (vs ++ v ∷ []) n)) + bit (n == v) ≡ bit (not (is_in vs n))
less_one vs v n new =
    ap (λ (b : Bool). bit (not b) + bit (n == v)) (in_more vs v n)
    ∙ less_by (is_in vs n) (n == v) (λ same. ap (is_in vs) (eqb-true n v same) ∙ new)

same_one : (vs : List ℕ) (v n : ℕ) → is_in vs v ≡ true → bit (not (is_in (vs ++ v ∷ []) n)) ≡ bit (not (is_in vs n))
same_one vs v n old =
    ap (λ (b : Bool). bit (not b)) (in_more vs v n)
    ∙ same_by (is_in vs n) (n == v) (λ same. ap (is_in vs) (eqb-true n v same) ∙ old)

-- those that are the value are none any more
less_all : (vs : List ℕ) (v : ℕ) (ns : List ℕ) → is_in vs v ≡ false → count_by (λ n. not (is_in (vs ++ v ∷ []) n)) ns + count_by (λ n. n == v) ns ≡ count_by (λ n. not (is_in vs n)) ns
less_all vs v [] new = refl
less_all vs v (n ∷ ns) new =
    let a = sum_by-cons (λ (k : ℕ). bit (not (is_in (vs ++ v ∷ []) k))) n ns in
    let b = sum_by-cons (λ (k : ℕ). bit (k == v)) n ns in
    let c = sum_by-cons (λ (k : ℕ). bit (not (is_in vs k))) n ns in
    let one = less_one vs v n new in
    let rest = less_all vs v ns new in
    omega (arith, a, b, c, one, rest)

same_all : (vs : List ℕ) (v : ℕ) (ns : List ℕ) → is_in vs v ≡ true → count_by (λ n. not (is_in (vs ++ v ∷ []) n)) ns ≡ count_by (λ n. not (is_in vs n)) ns
same_all vs v [] old = refl
same_all vs v (n ∷ ns) old =
    let a = sum_by-cons (λ (k : ℕ). bit (not (is_in (vs ++ v ∷ []) k))) n ns in
    let c = sum_by-cons (λ (k : ℕ). bit (not (is_in vs k))) n ns in
    let one = same_one vs v n old in
    let rest = same_all vs v ns old in
    omega (arith, a, c, one, rest)

next_value : (vs : List ℕ) (i : ℕ) → i < length vs → take (i + 1) vs ≡ take i vs ++ slice_index vs i ∷ []
next_value vs i inside = let more : i + 1 ≡ suc i = omega arith in ap (λ k. take k vs) more ∙ take-suc vs i 0 inside

pub others_less : (vs : List ℕ) (i : ℕ) (ns : List ℕ) → i < length vs → is_in (take i vs) (slice_index vs i) ≡ false
    → count_by (λ n. not (is_in (take (i + 1) vs) n)) ns + count_by (λ n. n == slice_index vs i) ns ≡ count_by (λ n. not (is_in (take i vs) n)) ns
others_less vs i ns inside new =
    ap (λ (l : List ℕ). count_by (λ n. not (is_in l n)) ns + count_by (λ n. n == slice_index vs i) ns) (next_value vs i inside) ∙ less_all (take i vs) (slice_index vs i) ns new

pub others_same : (vs : List ℕ) (i : ℕ) (ns : List ℕ) → i < length vs → is_in (take i vs) (slice_index vs i) ≡ true
    → count_by (λ n. not (is_in (take (i + 1) vs) n)) ns ≡ count_by (λ n. not (is_in (take i vs) n)) ns
others_same vs i ns inside old =
    ap (λ (l : List ℕ). count_by (λ n. not (is_in l n)) ns) (next_value vs i inside) ∙ same_all (take i vs) (slice_index vs i) ns old

-- of no values all numbers are none
pub all_others : (ns : List ℕ) → length ns ≡ count_by (λ n. not (is_in [] n)) ns
all_others [] = refl
all_others (n ∷ ns) =
    let a = sum_by-cons (λ (k : ℕ). bit (not (is_in [] k))) n ns in
    let rest = all_others ns in
    omega (arith, a, rest)

-- the counts of one value more
pub counts_more : (vs ns first out new : List ℕ) (i : ℕ) → i < length vs → out ≡ first ++ map (λ v. count_by (λ n. n == v) ns) (take i vs)
    → new ≡ out ++ count_by (λ n. n == slice_index vs i) ns ∷ [] → new ≡ first ++ map (λ v. count_by (λ n. n == v) ns) (take (i + 1) vs)
counts_more vs ns first out new i inside had is =
    let count = λ (v : ℕ). count_by (λ n. n == v) ns in
    let v = slice_index vs i in
    is ∙ ap (λ (l : List ℕ). l ++ count v ∷ []) had
    ∙ append_assoc first (map count (take i vs)) (count v ∷ [])
    ∙ ap (λ (l : List ℕ). first ++ l) (sym (map-append count (take i vs) (v ∷ [])) ∙ ap (map count) (sym (next_value vs i inside)))
