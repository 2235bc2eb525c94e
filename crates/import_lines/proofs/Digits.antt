-- The numbers that digits say, digit by digit.
use Rattle.std.proofs.Common.{◌≡◌, inl, inr, ◌<◌, ◌≤◌, ◌+◌, ◌*◌, ℕ, suc, min, Bool, true, false, ◌&&◌, List, [], ◌∷◌, ◌++◌, length, get_or, drop, refl, sym, ap, ◌∙◌, add-one, drop-cons, arith, Option, SomeIff, subst}
use Rattle.std.specs.Str.{all_ascii_digits}
use Rattle.std.specs.Char.{is_ascii_digit, digit_value}
use Rattle.std.specs.Str.Parse.{digits_value, digits_value_after}
use Rattle.import_lines.proofs.Quotients.{low_or_high}

-- further digits make a number no smaller
value_grows : (n : ℕ) (ds : List ℕ) → n ≤ digits_value_after 10 n ds
value_grows n [] = omega arith
value_grows n (d ∷ ds) = let more = value_grows (n * 10 + digit_value d) ds in omega arith

value_append : (n : ℕ) (ds es : List ℕ) → digits_value_after 10 n (ds ++ es) ≡ digits_value_after 10 (digits_value_after 10 n ds) es
value_append n [] es = refl
value_append n (d ∷ ds) es = value_append (n * 10 + digit_value d) ds es

value_step : (n : ℕ) (bs : List ℕ) (i : ℕ) → i < length bs → digits_value_after 10 n (drop i bs) ≡ digits_value_after 10 (n * 10 + digit_value (get_or bs i 0)) (drop (i + 1) bs)
value_step n bs i inside = rw (add-one i) (ap (digits_value_after 10 n) (drop-cons bs i 0 inside))

-- a number that is too long so far is too long as a whole
pub too_long : (whole value digit i : ℕ) (bs : List ℕ) → i < length bs → digits_value_after 10 value (drop i bs) ≡ whole → digit ≡ digit_value (get_or bs i 0) → 18446744073709551615 < value * 10 + digit → whole < 18446744073709551616 → ⊥
too_long whole value digit i bs inside read is long fits =
    let more = value_grows (value * 10 + digit_value (get_or bs i 0)) (drop (i + 1) bs) in
    let step = value_step value bs i inside in
    omega (arith, more, step, read, is, long, fits)

-- digits after others
pub together_some : (front back : List ℕ) (value : ℕ) (r : Option ℕ) → value ≡ digits_value 10 front → SomeIff r (digits_value_after 10 value back < 18446744073709551616) (digits_value_after 10 value back)
    → SomeIff r (digits_value 10 (front ++ back) < 18446744073709551616) (digits_value 10 (front ++ back))
together_some front back value r is told =
    subst (λ t. SomeIff r (t < 18446744073709551616) t) (ap (λ t. digits_value_after 10 t back) is ∙ sym (value_append 0 front back)) told

pub together_none : (front back : List ℕ) → (digits_value 10 front < 18446744073709551616 → ⊥) → digits_value 10 (front ++ back) < 18446744073709551616 → ⊥
together_none front back long fits =
    let whole = value_append 0 front back in
    let more = value_grows (digits_value 10 front) back in
    long (omega (arith, whole, more, fits))

-- ---- a number that is cut at a greatest one

pub tail_true : (x y : Bool) → (x && y) ≡ true → y ≡ true
tail_true true y h = h
tail_true false y h = cc

pub digits_rest : (bs : List ℕ) (i : ℕ) → i < length bs → all_ascii_digits (drop i bs) ≡ true → all_ascii_digits (drop (i + 1) bs) ≡ true
digits_rest bs i inside all = rw (add-one i) (tail_true (is_ascii_digit (get_or bs i 0)) (all_ascii_digits (drop (suc i) bs)) (sym (ap all_ascii_digits (drop-cons bs i 0 inside)) ∙ all))

min_cap : (most x : ℕ) (ds : List ℕ) → min most (digits_value_after 10 (min x most) ds) ≡ min most (digits_value_after 10 x ds)
min_cap most x ds = elim (low_or_high x most) [
  | inl low ↦ (let same : min x most ≡ x = omega arith in ap (λ t. min most (digits_value_after 10 t ds)) same)
  | inr high ↦ (
      let same : min x most ≡ most = omega arith in
      let here = value_grows most ds in
      let there = value_grows x ds in
      ap (λ t. min most (digits_value_after 10 t ds)) same ∙ (omega (arith, here, there, high)))
]

pub cap_step : (most whole value digit later i : ℕ) (bs : List ℕ) → i < length bs → min most (digits_value_after 10 value (drop i bs)) ≡ whole → digit ≡ digit_value (get_or bs i 0) → later ≡ min (value * 10 + digit) most → min most (digits_value_after 10 later (drop (i + 1) bs)) ≡ whole
cap_step most whole value digit later i bs inside read is cut =
    ap (λ t. min most (digits_value_after 10 t (drop (i + 1) bs))) cut
    ∙ min_cap most (value * 10 + digit) (drop (i + 1) bs)
    ∙ ap (λ t. min most (digits_value_after 10 (value * 10 + t) (drop (i + 1) bs))) is
    ∙ sym (ap (min most) (value_step value bs i inside)) ∙ read
