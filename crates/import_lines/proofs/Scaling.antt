-- Numbers as words, read with a factor.
use Rattle.std.proofs.Common.{◌≡◌, inl, inr, ◌<◌, ◌≤◌, ◌^◌, ◌+◌, ◌*◌, ℕ, min, Bool, true, false, not, ◌&&◌, ◌||◌, ◌==◌, nat_le, List, [], ◌∷◌, ◌++◌, length, take, drop, refl, sym, ap, ◌∙◌, arith, Result, Err, if◌then◌else◌}
use Rattle.std.proofs.Math.Nat.{mul_assoc}
use Rattle.std.specs.List.{list_any, position_or_len, before_first, after_first}
use Rattle.std.specs.Str.{all_ascii_digits}
use Rattle.std.specs.Str.Parse.{digits_value}
use Rattle.std.proofs.lemmas.Bool.{cases_Bool, lt-leb, eqb-true}
use Rattle.std.proofs.lemmas.List.{drop_all}
use Rattle.import_lines.specs.declared.weight_fault.WeightFault.{WeightFault}
use Rattle.import_lines.specs.declared.weight_fault.WeightFault.TheVariants.{TooManyDigits}
use Rattle.import_lines.specs.declared.weight.Weight.{Weight}
use Rattle.import_lines.specs.Weights.{is_point, is_exponent_mark, is_sign, is_mantissa, is_exponent, is_number, mantissa_of, digits_of, places_of, exponent_of, behind_sign, power_of, is_lowering, raise_of, lower_of, raised_of, lowered_of, weight_near}
use Rattle.import_lines.proofs.LinesCut.{none_passes}
use Rattle.import_lines.proofs.Digits.{tail_true}
use Rattle.import_lines.proofs.Numerals.{all_append, whole_digits}
use Rattle.import_lines.proofs.Quotients.{near_same, cap_up, cap_down}

-- ---- exponents

module _ (most number places power : ℕ) (exponent digits : List ℕ) (lowering : Bool) (r : Result Weight WeightFault)
    (behind : digits ≡ behind_sign exponent) (is : power ≡ min most (digits_value 10 digits)) (tells : lowering ≡ is_lowering exponent) where
  power_is : power ≡ min most (power_of exponent)
  power_is = is ∙ ap (λ ds. min most (digits_value 10 ds)) behind

  pub exponent_down : number < 2 ^ 96 → 30 ≤ most → lowering ≡ true → r ≡ weight_near (number * 1) (10 ^ (places + power)) → r ≡ weight_near (number * 10 ^ raise_of exponent) (10 ^ (places + lower_of exponent))
  exponent_down small far holds given =
      let down : is_lowering exponent ≡ true = sym tells ∙ holds in
      let once : number * 1 < 2 ^ 96 = omega (arith, small) in
      given
      ∙ ap (λ t. weight_near (number * 1) (10 ^ (places + t))) power_is
      ∙ cap_down most (power_of exponent) (number * 1) places once far
      ∙ rw down refl

  pub exponent_up : places + 10 ≤ most → lowering ≡ false → r ≡ weight_near (number * 10 ^ power) (10 ^ places) → r ≡ weight_near (number * 10 ^ raise_of exponent) (10 ^ (places + lower_of exponent))
  exponent_up far holds given =
      let up : is_lowering exponent ≡ false = sym tells ∙ holds in
      let same : places ≡ places + 0 = omega arith in
      given
      ∙ ap (λ t. weight_near (number * 10 ^ t) (10 ^ places)) power_is
      ∙ cap_up most (power_of exponent) number places far
      ∙ ap (λ t. weight_near (number * 10 ^ power_of exponent) (10 ^ t)) same
      ∙ rw up refl

-- ---- the parts of a number

head_true : (x y : Bool) → (x && y) ≡ true → x ≡ true
head_true true y h = refl
head_true false y h = cc

or_left : (x y : Bool) → (not x || y) ≡ true → x ≡ true → y ≡ true
or_left true y h is = h
or_left false y h is = cc

after_none : (p : ℕ → Bool) (bs : List ℕ) → list_any p bs ≡ false → after_first p bs ≡ []
after_none p bs none =
    let at : (position_or_len p bs == length bs) ≡ true = none_passes p bs ∙ ap not none in
    let full : position_or_len p bs ≡ length bs = eqb-true (position_or_len p bs) (length bs) at in
    drop_all (position_or_len p bs + 1) bs (omega arith)

sign_digits : (exponent : List ℕ) → is_exponent exponent ≡ true → all_ascii_digits (behind_sign exponent) ≡ true
sign_digits [] is = refl
sign_digits (b ∷ bytes) is = elim (cases_Bool (is_sign b)) [
  | inl signed ↦ rw signed (whole_digits bytes (rw signed at is))
  | inr plain ↦ rw plain (whole_digits (b ∷ bytes) (rw plain at is))
]

module _ (number : List ℕ) (is : is_number number ≡ true) where
  mantissa_digits : all_ascii_digits (before_first is_point (mantissa_of number) ++ after_first is_point (mantissa_of number)) ≡ true
  mantissa_digits = whole_digits (before_first is_point (mantissa_of number) ++ after_first is_point (mantissa_of number)) (head_true (is_mantissa (mantissa_of number)) (not (list_any is_exponent_mark number) || is_exponent (exponent_of number)) is)

  both_digits : (all_ascii_digits (before_first is_point (mantissa_of number)) && all_ascii_digits (after_first is_point (mantissa_of number))) ≡ true
  both_digits = sym (all_append (before_first is_point (mantissa_of number)) (after_first is_point (mantissa_of number))) ∙ mantissa_digits

  whole_all : all_ascii_digits (before_first is_point (mantissa_of number)) ≡ true
  whole_all = head_true (all_ascii_digits (before_first is_point (mantissa_of number))) (all_ascii_digits (after_first is_point (mantissa_of number))) both_digits

  fraction_all : all_ascii_digits (after_first is_point (mantissa_of number)) ≡ true
  fraction_all = tail_true (all_ascii_digits (before_first is_point (mantissa_of number))) (all_ascii_digits (after_first is_point (mantissa_of number))) both_digits

  exponent_or : (not (list_any is_exponent_mark number) || is_exponent (exponent_of number)) ≡ true
  exponent_or = tail_true (is_mantissa (mantissa_of number)) (not (list_any is_exponent_mark number) || is_exponent (exponent_of number)) is

  exponent_all : all_ascii_digits (behind_sign (exponent_of number)) ≡ true
  exponent_all = elim (cases_Bool (list_any is_exponent_mark number)) [
    | inl some ↦ sign_digits (exponent_of number) (or_left (list_any is_exponent_mark number) (is_exponent (exponent_of number)) exponent_or some)
    | inr none ↦ ap (λ e. all_ascii_digits (behind_sign e)) (after_none is_exponent_mark number none)
  ]

-- the same of what functions cut
module _ (number mantissa exponent : List ℕ) (mark : ℕ) (at : mark ≡ position_or_len is_exponent_mark number) (front : mantissa ≡ take mark number) (behind : exponent ≡ drop (mark + 1) number) where
  mantissa_is : mantissa ≡ mantissa_of number
  mantissa_is = front ∙ ap (λ k. take k number) at

  exponent_is : exponent ≡ exponent_of number
  exponent_is = behind ∙ ap (λ k. drop (k + 1) number) at

  pub exponent_digits : is_number number ≡ true → all_ascii_digits (behind_sign exponent) ≡ true
  exponent_digits is = ap (λ e. all_ascii_digits (behind_sign e)) exponent_is ∙ exponent_all number is

  module _ (whole fraction : List ℕ) (point : ℕ) (place : point ≡ position_or_len is_point mantissa) (before : whole ≡ take point mantissa) (after : fraction ≡ drop (point + 1) mantissa) where
    whole_is : whole ≡ before_first is_point (mantissa_of number)
    whole_is = before ∙ ap (λ k. take k mantissa) place ∙ ap (before_first is_point) mantissa_is

    fraction_is : fraction ≡ after_first is_point (mantissa_of number)
    fraction_is = after ∙ ap (λ k. drop (k + 1) mantissa) place ∙ ap (after_first is_point) mantissa_is

    pub front_digits : is_number number ≡ true → all_ascii_digits whole ≡ true
    front_digits is = ap all_ascii_digits whole_is ∙ whole_all number is

    pub back_digits : is_number number ≡ true → all_ascii_digits fraction ≡ true
    back_digits is = ap all_ascii_digits fraction_is ∙ fraction_all number is

    value_is : digits_value 10 (whole ++ fraction) ≡ digits_of number
    value_is = ap (λ ds. digits_value 10 (ds ++ fraction)) whole_is ∙ ap (λ ds. digits_value 10 (before_first is_point (mantissa_of number) ++ ds)) fraction_is

    pub scaled_some : (digits factor : ℕ) (r : Result Weight WeightFault) → digits_value 10 (whole ++ fraction) < 2 ^ 64 → digits ≡ digits_value 10 (whole ++ fraction)
        → r ≡ weight_near (factor * digits * 10 ^ raise_of exponent) (10 ^ (length fraction + lower_of exponent))
        → r ≡ (if nat_le (2 ^ 64) (digits_of number) then Err TooManyDigits else weight_near (factor * raised_of number) (lowered_of number))
    scaled_some digits factor r fits said given =
        let low : digits_of number < 2 ^ 64 = omega (arith, value_is, fits) in
        let short : nat_le (2 ^ 64) (digits_of number) ≡ false = lt-leb (2 ^ 64) (digits_of number) low in
        let above : factor * digits * 10 ^ raise_of exponent ≡ factor * raised_of number = ap (λ d. factor * d * 10 ^ raise_of exponent) (said ∙ value_is) ∙ ap (λ e. factor * digits_of number * 10 ^ raise_of e) exponent_is ∙ mul_assoc factor (digits_of number) (10 ^ raise_of (exponent_of number)) in
        let below : 10 ^ (length fraction + lower_of exponent) ≡ lowered_of number = ap (λ ds. 10 ^ (length ds + lower_of exponent)) fraction_is ∙ ap (λ e. 10 ^ (places_of number + lower_of e)) exponent_is in
        rw short (given ∙ near_same (factor * digits * 10 ^ raise_of exponent) (10 ^ (length fraction + lower_of exponent)) (factor * raised_of number) (lowered_of number) above below)
