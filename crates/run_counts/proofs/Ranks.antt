-- The number at a rank of numbers that stand by rising size is their quantile.
use Rattle.std.proofs.Common.{◌≡◌, ◌∙◌, ◌⊎◌, ◌+◌, ◌-◌, ◌*◌, ◌<◌, ◌≤◌, ℕ, zero, suc, List, [], ◌∷◌, Bool, true, false, cond, All, Contains, inl, inr, ap, arith, length, refl, slice_index_or, subst, sym}
use Rattle.std.specs.Prelude.{◌/◌, max, min, nat_le}
use Rattle.std.specs.List.{count_by, filter, fold}
use Rattle.std.specs.List.Sorted.{IsNonDecreasing, IsPermutation}
use Rattle.std.proofs.Math.Nat.{mul-le-mul_right}
use Rattle.std.proofs.lemmas.Bool.Decides.{nat_tests}
use Rattle.std.proofs.lemmas.List.{get_or_default}
use Rattle.std.proofs.lemmas.List.Elements.{All-filter, filter_passes}
use Rattle.std.proofs.lemmas.List.Sorted.{All-permutation, Contains-permutation, IsPermutation-sym, length_permutation, sum_by-IsPermutation}
use Rattle.std.proofs.lemmas.List.Sums.{sum_by-cons}
use Rattle.run_counts.specs.Quantiles.{up_to, reaches, least_of, quantile}

-- v is the first of the numbers or among the others, and no number is below it
folded : (v a : ℕ) (xs : List ℕ) → v ≤ a → All (λ w. v ≤ w) xs → (a ≡ v) ⊎ Contains xs v → fold min a xs ≡ v
folded v a [] low each (inl e) = e
folded v a [] low each (inr c) = absurd (omega (arith, c.1))
folded v a (x ∷ xs) low each found =
    let first : v ≤ x = each 0 0 (omega arith) in
    folded v (min a x) xs (omega (arith, low, first)) (λ k d inside. each (suc k) d (omega (arith, inside))) (next found first)
  where
    next : (a ≡ v) ⊎ Contains (x ∷ xs) v → v ≤ x → (min a x ≡ v) ⊎ Contains xs v
    next (inl e) first = inl (omega (arith, e, first))
    next (inr (zero, inside, e)) first = inl (omega (arith, low, e))
    next (inr (suc k, inside, e)) first = inr (k, omega (arith, inside), e)

-- an element is the first, or among the others
first_or : (v x : ℕ) (xs : List ℕ) → Contains (x ∷ xs) v → (x ≡ v) ⊎ Contains xs v
first_or v x xs (zero, inside, e) = inl e
first_or v x xs (suc k, inside, e) = inr (k, omega (arith, inside), e)

-- v is among the numbers, and none is below it
least_is : (v : ℕ) (xs : List ℕ) → All (λ w. v ≤ w) xs → Contains xs v → least_of xs ≡ v
least_is v [] each c = absurd (omega (arith, c.1))
least_is v (x ∷ xs) each c = folded v x xs (each 0 0 (omega arith)) (λ k d inside. each (suc k) d (omega (arith, inside))) (first_or v x xs c)

kept_at : (p : ℕ → Bool) (v x : ℕ) (kept : List ℕ) (b : Bool) → p x ≡ b → p v ≡ true → (x ≡ v) ⊎ Contains kept v → Contains (cond b (x ∷ kept) kept) v
kept_at p v x kept true test pass (inl e) = (0, omega arith, e)
kept_at p v x kept true test pass (inr c) = (suc c.0, omega (arith, c.1), c.2)
kept_at p v x kept false test pass (inl e) = absurd (let no : false ≡ true = sym test ∙ ap p e ∙ pass in cc)
kept_at p v x kept false test pass (inr c) = c

-- what passes is kept
kept : (p : ℕ → Bool) (v : ℕ) (xs : List ℕ) → p v ≡ true → Contains xs v → Contains (filter p xs) v
kept p v [] pass c = absurd (omega (arith, c.1))
kept p v (x ∷ xs) pass c = kept_at p v x (filter p xs) (p x) refl pass (elim (first_or v x xs c) [ inl e ↦ inl e | inr rest ↦ inr (kept p v xs pass rest) ])

-- v is the least of those that pass
least_passing : (p : ℕ → Bool) (v : ℕ) (xs : List ℕ) → p v ≡ true → Contains xs v → All (λ w. p w ≡ true → v ≤ w) xs → least_of (filter p xs) ≡ v
least_passing p v xs pass c each =
    least_is v (filter p xs) (λ k d inside. All-filter p (λ w. p w ≡ true → v ≤ w) xs each k d inside (filter_passes p xs k d inside)) (kept p v xs pass c)

-- at least so many numbers are at most v, where the first ones are
many : (v r : ℕ) (xs : List ℕ) → r ≤ length xs → ((k d : ℕ) → k < r → slice_index_or xs k d ≤ v) → r ≤ up_to xs v
many v zero xs inside low = omega arith
many v (suc r) [] inside low = absurd (omega (arith, inside))
many v (suc r) (x ∷ xs) inside low =
    let first : nat_le x v ≡ true = grind (arith, nat_tests, low 0 0 (omega arith)) in
    let rest = many v r xs (omega (arith, inside)) (λ k d more. low (suc k) d (omega (arith, more))) in
    let sum = sum_by-cons (λ n. cond (nat_le n v) 1 0) x xs ∙ ap (λ b. cond b 1 0 + up_to xs v) first in
    omega (arith, sum, rest)

one_more : (w x r : ℕ) (xs : List ℕ) (b : Bool) → nat_le x w ≡ b → up_to xs w ≤ r → up_to (x ∷ xs) w ≤ suc r
one_more w x r xs true e rest = let sum = sum_by-cons (λ n. cond (nat_le n w) 1 0) x xs ∙ ap (λ b. cond b 1 0 + up_to xs w) e in omega (arith, sum, rest)
one_more w x r xs false e rest = let sum = sum_by-cons (λ n. cond (nat_le n w) 1 0) x xs ∙ ap (λ b. cond b 1 0 + up_to xs w) e in omega (arith, sum, rest)

-- at most so many numbers are at most w, where all others are above it
few : (w r : ℕ) (xs : List ℕ) → ((k d : ℕ) → r ≤ k → k < length xs → w < slice_index_or xs k d) → up_to xs w ≤ r
few w r [] high = omega arith
few w zero (x ∷ xs) high =
    let first : nat_le x w ≡ false = grind (arith, nat_tests, high 0 0 (omega arith) (omega arith)) in
    let rest = few w zero xs (λ k d from inside. high (suc k) d (omega arith) (omega (arith, inside))) in
    let sum = sum_by-cons (λ n. cond (nat_le n w) 1 0) x xs ∙ ap (λ b. cond b 1 0 + up_to xs w) first in
    omega (arith, sum, rest)
few w (suc r) (x ∷ xs) high = one_more w x r xs (nat_le x w) refl (few w r xs (λ k d from inside. high (suc k) d (omega (arith, from)) (omega (arith, inside))))

-- the same of all numbers, by their places
rank_least : (percent r : ℕ) (ys : List ℕ) → 1 ≤ r → (percent * length ys ≤ 100 * (r - 1) → r ≡ 1) → IsNonDecreasing ys
    → All (λ w. reaches percent ys w ≡ true → slice_index_or ys (r - 1) 0 ≤ w) ys
rank_least percent r ys some last rising k d inside pass = below (nat_le (slice_index_or ys (r - 1) 0) (slice_index_or ys k d)) refl
  where
    below : (b : Bool) → nat_le (slice_index_or ys (r - 1) 0) (slice_index_or ys k d) ≡ b → slice_index_or ys (r - 1) 0 ≤ slice_index_or ys k d
    below true e = grind (arith, nat_tests, e)
    below false e =
        let less : slice_index_or ys k d < slice_index_or ys (r - 1) 0 = grind (arith, nat_tests, e) in
        let w = slice_index_or ys k d in
        let most : up_to ys w ≤ r - 1 = few w (r - 1) ys (λ j c from short. let above = rising (r - 1) j 0 from short in let same = get_or_default ys j 0 c short in omega (arith, above, less, same)) in
        let enough : percent * length ys ≤ 100 * up_to ys w = grind (arith, nat_tests, pass) in
        let one : r ≡ 1 = last (omega (arith, most, enough)) in
        let first = rising 0 k d (omega arith) inside in
        let same : slice_index_or ys (r - 1) 0 ≡ slice_index_or ys 0 d = ap (λ (i : ℕ). slice_index_or ys i 0) (omega (arith, one)) ∙ get_or_default ys 0 0 d (omega (arith, inside)) in
        absurd (omega (arith, same, first, less))

-- so many percent of the numbers reach v, which is among them, and none below it is reached
pub record IsQuantile (percent : ℕ) (numbers : List ℕ) (v : ℕ) : Type 0 where
  pub pass : reaches percent numbers v ≡ true
  pub among : Contains numbers v
  pub least : All (λ w. reaches percent numbers w ≡ true → v ≤ w) numbers

pub quantile_is : (percent : ℕ) (numbers : List ℕ) (v : ℕ) → IsQuantile percent numbers v → quantile percent numbers ≡ v
quantile_is percent numbers v is = least_passing (reaches percent numbers) v numbers is.pass is.among is.least

-- the number at a rank is one, where so many numbers are enough, and one less is not
pub ranked : (percent r : ℕ) (ys : List ℕ) → 1 ≤ r → r ≤ length ys → percent * length ys ≤ 100 * r → (percent * length ys ≤ 100 * (r - 1) → r ≡ 1)
    → IsNonDecreasing ys → IsQuantile percent ys (slice_index_or ys (r - 1) 0)
ranked percent r ys some inside enough last rising =
    let v = slice_index_or ys (r - 1) 0 in
    let most : r ≤ up_to ys v = many v r ys inside (λ k d below. let low = rising k (r - 1) d (omega (arith, below)) (omega (arith, some, inside)) in let same = get_or_default ys (r - 1) d 0 (omega (arith, some, inside)) in omega (arith, low, same)) in
    record {
      pass = grind (arith, nat_tests, enough, most);
      among = (r - 1, omega (arith, some, inside), get_or_default ys (r - 1) v 0 (omega (arith, some, inside)));
      least = rank_least percent r ys some last rising;
    }

-- there is one of numbers in order
pub found : (percent : ℕ) (ys : List ℕ) → percent ≤ 100 → 1 ≤ length ys → IsNonDecreasing ys → (v : ℕ) × IsQuantile percent ys v
found percent ys below some rising =
    let wanted = percent * length ys in
    let r = max ((wanted + 99) / 100) 1 in
    let most : wanted ≤ 100 * length ys = mul-le-mul_right (length ys) below in
    (slice_index_or ys (r - 1) 0, ranked percent r ys (omega arith) (omega (arith, most, some)) (omega arith) (λ less. omega (arith, less)) rising)

same_reaches : (percent : ℕ) (xs ys : List ℕ) (w : ℕ) → IsPermutation xs ys → reaches percent xs w ≡ reaches percent ys w
same_reaches percent xs ys w is =
    ap (λ (n : ℕ). nat_le (percent * n) (100 * up_to xs w)) (sym (length_permutation xs ys is))
    ∙ ap (λ (n : ℕ). nat_le (percent * length ys) (100 * n)) (sym (sum_by-IsPermutation (λ (n : ℕ). cond (nat_le n w) 1 0) xs ys is))

permuted : (percent v : ℕ) (xs ys : List ℕ) → IsPermutation xs ys → IsQuantile percent ys v → IsQuantile percent xs v
permuted percent v xs ys is q =
    let back = IsPermutation-sym xs ys is in
    let each = All-permutation (λ (w : ℕ). reaches percent ys w ≡ true → v ≤ w) ys xs back q.least in
    record {
      pass = same_reaches percent xs ys v is ∙ q.pass;
      among = Contains-permutation ys xs v back q.among;
      least = λ k d inside pass. each k d inside (sym (same_reaches percent xs ys (slice_index_or xs k d) is) ∙ pass);
    }

-- numbers in another order have the same quantiles
pub stays : (percent : ℕ) (xs ys : List ℕ) → percent ≤ 100 → 1 ≤ length ys → IsPermutation xs ys → IsNonDecreasing ys → quantile percent ys ≡ quantile percent xs
stays percent xs ys below some is rising =
    let q = found percent ys below some rising in
    quantile_is percent ys q.0 q.1 ∙ sym (quantile_is percent xs q.0 (permuted percent q.0 xs ys is q.1))
