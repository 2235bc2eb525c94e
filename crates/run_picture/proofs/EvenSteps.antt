-- The steps of a scale are even.
use Rattle.std.proofs.Common.{◌≡◌, ◌∙◌, ◌⊎◌, ◌↔◌, ◌<◌, ◌≤◌, ◌+◌, ◌-◌, ◌*◌, ◌/◌, ◌==◌, ℕ, zero, suc, List, ◌∷◌, Bool, true, false, cond, ap, arith, inl, inr, min, nat_lt, refl, sym}
use Rattle.std.proofs.Math.Nat.{div-mul-le_self, mul-le-mul_right}
use Rattle.std.proofs.lemmas.Bool.{cases_Bool, cases_lt}
use Rattle.std.proofs.lemmas.Bool.Decides.{nat_tests}
use Rattle.std.proofs.lemmas.List.Sums.{sum_by-cons}
use Rattle.std.proofs.lemmas.Nat.{div_below, le-div}
use Rattle.std.specs.List.{count_by, range_with_len}
use Rattle.run_picture.specs.Shades.{KeyView, least_of, step_of}
use Rattle.run_picture.specs.Steps.{AreSteps, EachStepHasItsShare, StepsAreEven, StepsAreOne, StepsGoFromEndToEnd, share_of, width_of}

-- ---- how many numbers pass a test

abbrev one_if : Bool → ℕ
one_if b = cond b 1 0

count_cons : (p : ℕ → Bool) (x : ℕ) (xs : List ℕ) → count_by p (x ∷ xs) ≡ one_if (p x) + count_by p xs
count_cons p x xs = sum_by-cons (λ (y : ℕ). cond (p y) 1 0) x xs

-- a number passes exactly where it lies from b on and below c
abbrev Between : (ℕ → Bool) → ℕ → ℕ → ℕ → Type 0
Between p b c v = (p v ≡ true) ↔ ((b ≤ v) × (v < c))

between_by : (t : Bool) (p : ℕ → Bool) (a n b c : ℕ) → p a ≡ t → b ≤ c → Between p b c a
    → count_by p (range_with_len (a + 1) n) + min n (b - (a + 1)) ≡ min n (c - (a + 1)) → one_if t + count_by p (range_with_len (a + 1) n) + min (suc n) (b - a) ≡ min (suc n) (c - a)
between_by true p a n b c is order tells rest = (let inside = tells.0 is in omega (arith, inside, rest))
between_by false p a n b c is order tells rest =
    elim (cases_lt a b) [
      | inl early ↦ omega (arith, early, order, rest)
      | inr late ↦
          elim (cases_lt a c) [
            | inl inside ↦ absurd (let e : false ≡ true = sym is ∙ tells.1 (late, inside) in cc)
            | inr past ↦ omega (arith, late, past, order, rest)
          ]
    ]

pub count_between : (p : ℕ → Bool) (a n b c : ℕ) → b ≤ c → ((v : ℕ) → a ≤ v → v < a + n → Between p b c v) → count_by p (range_with_len a n) + min n (b - a) ≡ min n (c - a)
count_between p a zero b c order tells = omega arith
count_between p a (suc n) b c order tells =
    let rest = count_between p (a + 1) n b c order (λ v from inside. tells v (omega (arith, from)) (omega (arith, inside))) in
    let head = between_by (p a) p a n b c refl order (tells a (omega arith) (omega arith)) rest in
    omega (arith, head, count_cons p a (range_with_len (a + 1) n))

-- ---- the steps of numbers

-- below a step lie so many sixteenths, rounded up
below_step : (x width s : ℕ) → x < width → s ≤ 16 → (min 15 (x * 16 / width) < s) ↔ (x < (s * width + 15) / 16)
below_step x width s inside few =
    let some : 0 < width = omega (arith, inside) in
    let top : x * 16 / width < 16 = div_below (x * 16) width 16 some (omega (arith, inside)) in (
      λ less. reached x width s (cases_lt (x * 16) (s * width)) some (omega (arith, less, top)),
      λ less. (let below : x * 16 / width < s = div_below (x * 16) width s some (omega (arith, less)) in omega (arith, below)),
    ) where
      reached : (x width s : ℕ) → (x * 16 < s * width) ⊎ (s * width ≤ x * 16) → 0 < width → x * 16 / width < s → x < (s * width + 15) / 16
      reached x width s (inl short) some less = omega (arith, short)
      reached x width s (inr over) some less = absurd (let high : s ≤ x * 16 / width = le-div s (x * 16) width some over in omega (arith, high, less))

module _ (key : KeyView) (order : least_of key ≤ key.greatest) where
  abbrev least : ℕ
  least = least_of key

  abbrev width : ℕ
  width = width_of key

  -- the first number of a step
  abbrev first : ℕ → ℕ
  first s = least + (s * width + 15) / 16

  below : (v s : ℕ) → least ≤ v → v < least + width → s ≤ 16 → (step_of key v < s) ↔ (v < first s)
  below v s from inside few =
      let tells = below_step (v - least) width s (omega (arith, from, inside)) few in
      (λ less. (let short = tells.0 less in omega (arith, short, from)), λ less. tells.1 (omega (arith, less, from)))

  test_below : (v s : ℕ) → least ≤ v → v < least + width → s ≤ 16 → Between (λ (w : ℕ). nat_lt (step_of key w) s) 0 (first s) v
  test_below v s from inside few =
      let tells = below v s from inside few in (
        λ is. (let less : step_of key v < s = grind (arith, nat_tests, is) in (omega arith, tells.0 less)),
        λ found. (let less : step_of key v < s = tells.1 found.1 in grind (arith, nat_tests, less)),
      )

  share_whole : (s : ℕ) → s ≤ 16 → (s * width + 15) / 16 ≤ width
  share_whole s few = (let most : s * width ≤ 16 * width = mul-le-mul_right width few in omega (arith, most))

  rising : (v w : ℕ) → v ≤ w → step_of key v ≤ step_of key w
  rising v w order =
      let some : 0 < width = omega arith in
      let low : (v - least) * 16 / width * width ≤ (v - least) * 16 = div-mul-le_self ((v - least) * 16) width in
      let more : (v - least) * 16 / width ≤ (w - least) * 16 / width = le-div ((v - least) * 16 / width) ((w - least) * 16) width some (omega (arith, low, order)) in
      omega (arith, more)

  pub steps_even : AreSteps least width (step_of key)
  steps_even = record {
    rising = λ v w from order inside. rising v w order;
    shares =
        λ s few.
        let counted = count_between (λ (v : ℕ). nat_lt (step_of key v) s) least width 0 (first s) (omega arith) (λ v from inside. test_below v s from inside few) in
        omega (arith, counted, share_whole s few);
  }

  test_at : (v s : ℕ) → least ≤ v → v < least + width → s < 16 → Between (λ (w : ℕ). step_of key w == s) (first s) (first (s + 1)) v
  test_at v s from inside few =
      let here = below v s from inside (omega (arith, few)) in
      let next = below v (s + 1) from inside (omega (arith, few)) in (
        λ is.
            (let same : step_of key v ≡ s = grind (arith, nat_tests, is) in
            (not_less v (first s) (cases_lt v (first s)) (λ less. omega (arith, here.1 less, same)), next.0 (omega (arith, same)))),
        λ found.
            (let less : step_of key v < s + 1 = next.1 found.1 in
            let more : s ≤ step_of key v = not_less (step_of key v) s (cases_lt (step_of key v) s) (λ low. omega (arith, here.0 low, found.0)) in
            let same : step_of key v ≡ s = omega (arith, less, more) in
            grind (arith, nat_tests, same)),
      ) where
        not_less : (a b : ℕ) → (a < b) ⊎ (b ≤ a) → (a < b → ⊥) → b ≤ a
        not_less a b (inl less) none = absurd (none less)
        not_less a b (inr more) none = more

  pub share_even : (s : ℕ) → s < 16 → (share_of key s ≡ width / 16) ⊎ (share_of key s ≡ (width + 15) / 16)
  share_even s few =
      let e : (s + 1) * width ≡ s * width + width = omega arith in
      let ordered : first s ≤ first (s + 1) = omega (arith, e) in
      let counted = count_between (λ (v : ℕ). step_of key v == s) least width (first s) (first (s + 1)) ordered (λ v from inside. test_at v s from inside few) in
      let n : share_of key s + (s * width + 15) / 16 ≡ (s * width + width + 15) / 16 = omega (arith, counted, e, share_whole s (omega (arith, few)), share_whole (s + 1) (omega (arith, few))) in
      split (share_of key s) (s * width) width (cases_lt (width / 16) (share_of key s)) n where
        split : (n m w : ℕ) → (w / 16 < n) ⊎ (n ≤ w / 16) → n + (m + 15) / 16 ≡ (m + w + 15) / 16 → (n ≡ w / 16) ⊎ (n ≡ (w + 15) / 16)
        split n m w (inl more) e = inr (omega (arith, more, e))
        split n m w (inr less) e = inl (omega (arith, less, e))

  top_step : (s : ℕ) → s ≤ 16 → first s ≤ key.greatest → s ≤ step_of key key.greatest
  top_step s few reached =
      let tells = below key.greatest s order (omega (arith, order)) few in
      elim (cases_lt (step_of key key.greatest) s) [
        | inl less ↦ absurd (omega (arith, tells.0 less, reached))
        | inr more ↦ more
      ]

  top_below : (s : ℕ) → s ≤ 16 → key.greatest < first s → step_of key key.greatest < s
  top_below s few past = (below key.greatest s order (omega (arith, order)) few).1 past

pub steps_are_even : StepsAreEven
steps_are_even key order = steps_even key order

pub each_step_has_its_share : EachStepHasItsShare
each_step_has_its_share key s order few = share_even key order s few

pub steps_go_from_end_to_end : StepsGoFromEndToEnd
steps_go_from_end_to_end key order = record {
  first = (let e = (below key order (least_of key) 1 (omega arith) (omega (arith, order)) (omega arith)).1 (omega (arith, order)) in omega (arith, e));
  last =
      λ wide.
      let low = top_step key order 15 (omega arith) (omega (arith, wide, order)) in
      let high = top_below key order 16 (omega arith) (omega (arith, order)) in
      omega (arith, low, high);
  short =
      λ wide narrow.
      let low = top_step key order 14 (omega arith) (omega (arith, wide, narrow, order)) in
      let high = top_below key order 15 (omega arith) (omega (arith, wide, narrow, order)) in
      omega (arith, low, high);
}

-- ---- and no other

-- where all below a number that passes pass, those pass that stand before as many as pass
count_tells : (p : ℕ → Bool) (a n v : ℕ) → ((u w : ℕ) → a ≤ u → u ≤ w → w < a + n → p w ≡ true → p u ≡ true) → a ≤ v → v < a + n → (p v ≡ true) ↔ (v < a + count_by p (range_with_len a n))
count_tells p a zero v closed from inside = absurd (omega (arith, from, inside))
count_tells p a (suc n) v closed from inside =
    elim (cases_Bool (p a)) [
      | inl first ↦
          (let more : count_by p (range_with_len a (suc n)) ≡ 1 + count_by p (range_with_len (a + 1) n) = count_cons p a (range_with_len (a + 1) n) ∙ ap (λ (b : Bool). one_if b + count_by p (range_with_len (a + 1) n)) first in
          elim (cases_lt a v) [
            | inl behind ↦
                (let rest = count_tells p (a + 1) n v (λ u w late order below. closed u w (omega (arith, late)) order (omega (arith, below))) (omega (arith, behind)) (omega (arith, inside)) in
                (λ is. (let less = rest.0 is in omega (arith, less, more)), λ less. rest.1 (omega (arith, less, more))))
            | inr here ↦
                (let same : a ≡ v = omega (arith, here, from) in (λ is. omega (arith, more, same), λ less. sym (ap p same) ∙ first))
          ])
      | inr none ↦
          let fails = λ (w : ℕ) (late : a ≤ w) (below : w < a + suc n) (is : p w ≡ true). refuted (p a) none (closed a w (omega arith) late below is) in
          let counted = count_between p a (suc n) 0 0 (omega arith) (λ w late below. (λ is. absurd (fails w late below is), λ found. absurd (omega (arith, found.1)))) in
          (λ is. absurd (fails v from inside is), λ less. absurd (omega (arith, less, counted, from)))
    ] where
      refuted : (b : Bool) → b ≡ false → b ≡ true → ⊥
      refuted b is are = (let e : false ≡ true = sym is ∙ are in cc)

step_tells : (least width : ℕ) (step : ℕ → ℕ) (v s : ℕ) → AreSteps least width step → least ≤ v → v < least + width → s ≤ 16 → (step v < s) ↔ (v < least + (s * width + 15) / 16)
step_tells least width step v s are from inside few =
    let test = λ (w : ℕ). nat_lt (step w) s in
    let tells = count_tells test least width v (λ u w late order below is. lower (step u) (step w) s (are.rising u w late order below) is) from inside in
    let share = are.shares s few in
    (λ less. (let short = tells.0 (passes (step v) s less) in omega (arith, short, share)), λ less. passed (step v) s (tells.1 (omega (arith, less, share)))) where
      lower : (a b s : ℕ) → a ≤ b → nat_lt b s ≡ true → nat_lt a s ≡ true
      lower a b s order is = grind (arith, nat_tests, order, is)

      passes : (a s : ℕ) → a < s → nat_lt a s ≡ true
      passes a s less = grind (arith, nat_tests, less)

      passed : (a s : ℕ) → nat_lt a s ≡ true → a < s
      passed a s is = grind (arith, nat_tests, is)

no_more : (least width : ℕ) (step other : ℕ → ℕ) (v : ℕ) → AreSteps least width step → AreSteps least width other → least ≤ v → v < least + width → other v ≤ step v
no_more least width step other v one two from inside =
    let all : step v < 16 = (step_tells least width step v 16 one from inside (omega arith)).1 (omega (arith, inside)) in
    let short = (step_tells least width step v (step v + 1) one from inside (omega (arith, all))).0 (omega arith) in
    let less = (step_tells least width other v (step v + 1) two from inside (omega (arith, all))).1 short in
    omega (arith, less)

pub steps_are_one : StepsAreOne
steps_are_one least width step other v one two from inside =
    omega (arith, no_more least width step other v one two from inside, no_more least width other step v two one from inside)
