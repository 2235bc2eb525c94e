-- The numbers at an axis are the multiples of the least step of which ten reach over it.
use Rattle.std.proofs.Common.{◌≡◌, ◌∙◌, ◌⊎◌, ◌<◌, ◌≤◌, ◌+◌, ◌-◌, ◌*◌, ◌/◌, ◌^◌, ◌==◌, ◌&&◌, ◌↔◌, ℕ, List, [], ◌∷◌, Bool, true, false, Contains, if◌then◌else◌, ap, arith, get_or, inl, inr, length, nat_le, refl, subst, sym}
use Rattle.std.proofs.Math.Nat.{div-mul-le_self, mul-le-mul_right, one-le-pow, pow-le-pow_right}
use Rattle.std.proofs.lemmas.Bool.{and_parts, cases_Bool, cases_lt, or_cases}
use Rattle.std.proofs.lemmas.Bool.Decides.{nat_tests}
use Rattle.std.proofs.lemmas.List.Folds.{list_all_at}
use Rattle.std.proofs.lemmas.List.FromFn.{get_or-map-range_with_len, get_or-range_with_len, length-map-range_with_len, length-range_with_len}
use Rattle.std.proofs.lemmas.Nat.{div_below, le-div}
use Rattle.std.specs.List.{flat_map, list_all, range_with_len}
use Rattle.std.specs.List.Sorted.{IsStrictlyIncreasing}
use Rattle.run_picture.specs.Keys.{is_among}
use Rattle.run_picture.specs.Ticks.{AreTicks, EachAxisHasTicks, IsAxisStep, IsMultiple, TicksAreFew, TicksAreOne, axis_steps, first_step, lowest_times, multiples, step_over, ticks}
use Rattle.run_picture.proofs.OneKey.{same_numbers}
use Rattle.run_picture.proofs.Told.{Rising, rising_least}

-- ---- the step

abbrev Each : (ℕ → Type 0) → List ℕ → Type 0
Each P [] = Unit {0}
Each P (x ∷ xs) = P x × Each P xs

-- 1, 2 and 5 times a power of ten
abbrev of_power : ℕ → List ℕ
of_power n = 10 ^ n ∷ 2 * 10 ^ n ∷ 5 * 10 ^ n ∷ []

powers_are : (ns : List ℕ) → Each IsAxisStep (flat_map of_power ns)
powers_are [] = tt
powers_are (n ∷ ns) = ((n, inl refl), ((n, inr (inl refl)), ((n, inr (inr refl)), powers_are ns)))

all_steps : Each IsAxisStep axis_steps
all_steps = powers_are (range_with_len 0 9)

all_rise : Rising 0 axis_steps
all_rise = omega arith

all_small : Each (λ (s : ℕ). s ≤ 1000000000) axis_steps
all_small = omega arith

one_of : (P : ℕ → Type 0) (b : Bool) (step rest : ℕ) → P step → P rest → P (if b then step else rest)
one_of P true step rest here later = here
one_of P false step rest here later = later

step_is : (steps : List ℕ) (distance : ℕ) → Each IsAxisStep steps → IsAxisStep (first_step steps distance)
step_is [] distance each = (9, inl refl)
step_is (step ∷ steps) distance each = one_of IsAxisStep (nat_le distance (10 * step)) step (first_step steps distance) each.0 (step_is steps distance each.1)

reaching_by : (b : Bool) (distance step rest : ℕ) → nat_le distance (10 * step) ≡ b → distance ≤ 10 * rest → distance ≤ 10 * (if b then step else rest)
reaching_by true distance step rest is later = grind (arith, nat_tests, is)
reaching_by false distance step rest is later = later

step_reaches : (steps : List ℕ) (distance : ℕ) → distance ≤ 10000000000 → distance ≤ 10 * first_step steps distance
step_reaches [] distance near = omega (arith, near)
step_reaches (step ∷ steps) distance near = reaching_by (nat_le distance (10 * step)) distance step (first_step steps distance) refl (step_reaches steps distance near)

later_step : (distance step other : ℕ) (steps : List ℕ) → is_among (step ∷ steps) other ≡ true → distance ≤ 10 * other → nat_le distance (10 * step) ≡ false → is_among steps other ≡ true
later_step distance step other steps has near short =
    elim (or_cases (step == other) (is_among steps other) has) [
      | inl is ↦ absurd (grind (arith, nat_tests, is, short, near))
      | inr there ↦ there
    ]

least_by : (b : Bool) (distance step rest other : ℕ) → nat_le distance (10 * step) ≡ b → step ≤ other → (nat_le distance (10 * step) ≡ false → rest ≤ other) → (if b then step else rest) ≤ other
least_by true distance step rest other is here later = here
least_by false distance step rest other is here later = later is

-- of steps that rise no lesser one reaches
step_least : (a : ℕ) (steps : List ℕ) (distance other : ℕ) → Rising a steps → is_among steps other ≡ true → distance ≤ 10 * other → first_step steps distance ≤ other
step_least a [] distance other rising has near = absurd (let e : false ≡ true = has in cc)
step_least a (step ∷ steps) distance other rising has near =
    least_by (nat_le distance (10 * step)) distance step (first_step steps distance) other refl (rising_least step other (step ∷ steps) (omega arith, rising.1) has)
    (λ short. step_least (step + 1) steps distance other rising.1 (later_step distance step other steps has near short) near)

step_small : (steps : List ℕ) (distance : ℕ) → Each (λ (s : ℕ). s ≤ 1000000000) steps → first_step steps distance ≤ 1000000000
step_small [] distance each = omega arith
step_small (step ∷ steps) distance each =
    one_of (λ (s : ℕ). s ≤ 1000000000) (nat_le distance (10 * step)) step (first_step steps distance) each.0 (step_small steps distance each.1)

-- the steps up to 500,000,000 are listed
abbrev is_listed : ℕ → Bool
is_listed k = is_among axis_steps (10 ^ k) && (is_among axis_steps (2 * 10 ^ k) && is_among axis_steps (5 * 10 ^ k))

all_listed : list_all is_listed (range_with_len 0 9) ≡ true
all_listed = refl

at_nine : (k : ℕ) → k < 9 → get_or (range_with_len 0 9) k 0 ≡ k
at_nine k few = omega (arith, get_or-range_with_len 0 9 k 0 few)

listed : (k : ℕ) → k < 9 → is_listed k ≡ true
listed k few =
    elim (cases_Bool (is_listed k)) [
      | inl hit ↦ hit
      | inr miss ↦
          let inside : k < length (range_with_len 0 9) = omega (arith, few, length-range_with_len 0 9) in
          let wrong : list_all is_listed (range_with_len 0 9) ≡ false = list_all_at is_listed (range_with_len 0 9) k 0 inside (ap is_listed (at_nine k few) ∙ miss) in
          let clash : true ≡ false = sym all_listed ∙ wrong in
          absurd (cc)
    ]

is_in_list : (k other : ℕ) → k < 9 → (other ≡ 10 ^ k) ⊎ ((other ≡ 2 * 10 ^ k) ⊎ (other ≡ 5 * 10 ^ k)) → is_among axis_steps other ≡ true
is_in_list k other few (inl is) = ap (is_among axis_steps) is ∙ (and_parts (is_among axis_steps (10 ^ k)) (is_among axis_steps (2 * 10 ^ k) && is_among axis_steps (5 * 10 ^ k)) (listed k few)).0
is_in_list k other few (inr form) = ap_form form where
  rest : (is_among axis_steps (2 * 10 ^ k) ≡ true) × (is_among axis_steps (5 * 10 ^ k) ≡ true)
  rest =
      and_parts (is_among axis_steps (2 * 10 ^ k)) (is_among axis_steps (5 * 10 ^ k))
      (and_parts (is_among axis_steps (10 ^ k)) (is_among axis_steps (2 * 10 ^ k) && is_among axis_steps (5 * 10 ^ k)) (listed k few)).1

  ap_form : (other ≡ 2 * 10 ^ k) ⊎ (other ≡ 5 * 10 ^ k) → is_among axis_steps other ≡ true
  ap_form (inl is) = ap (is_among axis_steps) is ∙ rest.0
  ap_form (inr is) = ap (is_among axis_steps) is ∙ rest.1

not_less : (k other : ℕ) → (other ≡ 10 ^ k) ⊎ ((other ≡ 2 * 10 ^ k) ⊎ (other ≡ 5 * 10 ^ k)) → 10 ^ k ≤ other
not_less k other (inl is) = omega (arith, is)
not_less k other (inr (inl is)) = omega (arith, is)
not_less k other (inr (inr is)) = omega (arith, is)

least_step : (distance other : ℕ) → distance ≤ 10000000000 → IsAxisStep other → distance ≤ 10 * other → step_over distance ≤ other
least_step distance other near even reached =
    elim (cases_lt even.0 9) [
      | inl few ↦ step_least 0 axis_steps distance other all_rise (is_in_list even.0 other few even.1) reached
      | inr many ↦
          let ten : 0 < 10 = omega arith in
          let big : 10 ^ 9 ≤ 10 ^ even.0 = pow-le-pow_right ten many in
          omega (arith, big, not_less even.0 other even.1, step_small axis_steps distance all_small)
    ]

some_step : (step : ℕ) → IsAxisStep step → 1 ≤ step
some_step step even =
    let ten : 0 < 10 = omega arith in
    let one : 1 ≤ 10 ^ even.0 = one-le-pow even.0 10 ten in
    omega (arith, one, not_less even.0 step even.1)

-- ---- its multiples

module _ (step first last : ℕ) (some : 1 ≤ step) where
  abbrev lowest : ℕ
  lowest = lowest_times step first

  abbrev many : ℕ
  many = last / step + 1 - lowest

  abbrev of_step : ℕ → ℕ
  of_step times = times * step

  first_reached : first ≤ lowest * step
  first_reached = omega arith

  not_lower : (times : ℕ) → first ≤ times * step → lowest ≤ times
  not_lower times from =
      let below : lowest < times + 1 = div_below (first + step - 1) step (times + 1) some (omega (arith, from)) in
      omega (arith, below)

  not_past : (times : ℕ) → times ≤ last / step → times * step ≤ last
  not_past times upto = omega (arith, mul-le-mul_right step upto, div-mul-le_self last step)

  item : (k d : ℕ) → k < many → get_or (multiples step first last) k d ≡ (lowest + k) * step
  item k d inside = get_or-map-range_with_len of_step lowest many k (lowest + k) d inside refl

  count : length (multiples step first last) ≡ many
  count = length-map-range_with_len of_step lowest many

  pub multiples_rise : IsStrictlyIncreasing (multiples step first last)
  multiples_rise k inside =
      let here = item k 0 (omega (arith, inside, count)) in
      let next = item (k + 1) 0 (omega (arith, inside, count)) in
      omega (arith, here, next, some)

  pub multiples_are : (n : ℕ) → Contains (multiples step first last) n ↔ ((first ≤ n) × (n ≤ last) × IsMultiple step n)
  multiples_are n = (
    λ there.
        (let inside : there.0 < many = omega (arith, there.1, count) in
        let e : n ≡ (lowest + there.0) * step = sym there.2 ∙ item there.0 n inside in
        (omega (arith, e, first_reached), omega (arith, e, not_past (lowest + there.0) (omega (arith, inside))), (lowest + there.0, e))),
    λ is.
        (let times = is.2.0 in
        let low = not_lower times (omega (arith, is.0, is.2.1)) in
        let high : times ≤ last / step = le-div times last step some (omega (arith, is.1, is.2.1)) in
        let inside : times - lowest < many = omega (arith, low, high) in
        let e : lowest + (times - lowest) ≡ times = omega (arith, low) in
        (times - lowest, omega (arith, inside, count), item (times - lowest) n inside ∙ ap of_step e ∙ sym is.2.1)),
  )

  pub multiples_few : last - first ≤ 10 * step → length (multiples step first last) ≤ 11
  multiples_few near =
      elim (cases_lt 11 many) [
        | inl over ↦ absurd (let reached = not_past (lowest + 11) (omega (arith, over)) in omega (arith, reached, first_reached, near, some))
        | inr few ↦ omega (arith, few, count)
      ]

-- ---- the ticks

pub are_ticks : (first last : ℕ) → last - first ≤ 10000000000 → AreTicks first last (ticks first last)
unfolding ticks
are_ticks first last near =
    let step = step_over (last - first) in
    let even = step_is axis_steps (last - first) all_steps in
    let some = some_step step even in
    record {
      step = step;
      even = even;
      reaching = step_reaches axis_steps (last - first) near;
      least = λ other is reached. least_step (last - first) other near is reached;
      rising = multiples_rise step first last some;
      each = multiples_are step first last some;
    }

pub each_axis_has_ticks : EachAxisHasTicks
each_axis_has_ticks first last short = (ticks first last, are_ticks first last (omega (arith, short)))

pub ticks_are_one : TicksAreOne
ticks_are_one first last numbers others one two =
    let same : one.step ≡ two.step = omega (arith, one.least two.step two.even two.reaching, two.least one.step one.even one.reaching) in
    same_numbers numbers others one.rising two.rising
    (λ n has. (let is = (one.each n).0 has in (two.each n).1 (is.0, is.1, subst (λ (s : ℕ). IsMultiple s n) same is.2)))
    (λ n has. (let is = (two.each n).0 has in (one.each n).1 (is.0, is.1, subst (λ (s : ℕ). IsMultiple s n) (sym same) is.2)))

pub ticks_are_few : TicksAreFew
ticks_are_few first last numbers are =
    let some = some_step are.step are.even in
    let same = same_numbers numbers (multiples are.step first last) are.rising (multiples_rise are.step first last some) (λ n has. (multiples_are are.step first last some n).1 ((are.each n).0 has))
    (λ n has. (are.each n).1 ((multiples_are are.step first last some n).0 has)) in
    omega (arith, ap (λ (xs : List ℕ). length xs) same, multiples_few are.step first last some are.reaching)
