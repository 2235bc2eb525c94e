-- Numbers as words.
use Rattle.std.proofs.Common.{◌≡◌, None, inl, inr, ◌<◌, ◌≤◌, ◌^◌, ℕ, suc, Bool, true, false, not, ◌&&◌, ◌||◌, ◌==◌, nat_le, List, [], ◌∷◌, ◌++◌, length, refl, sym, ap, ◌∙◌, arith, Result, Err}
use Rattle.std.specs.List.{list_any, position_or_len, before_first, after_first}
use Rattle.std.specs.Result.{OkIff}
use Rattle.std.specs.Str.{all_ascii_digits}
use Rattle.std.specs.Char.{is_ascii_digit}
use Rattle.std.specs.Str.Parse.{digits_value, ParsesUnsigned}
use Rattle.std.proofs.lemmas.Bool.{cases_Bool, ne_eqb, eq-eqb}
use Rattle.std.proofs.lemmas.Bool.Decides.{nat_tests}
use Rattle.std.proofs.lemmas.Str.Parse.{IsNumeralModel, numerals_by_value, tells_all_ascii_digits, parse_digits}
use Rattle.import_lines.specs.declared.weight_fault.WeightFault.TheVariants.{WeightTooLarge}
use Rattle.import_lines.specs.Weights.{most_weight, is_exponent_mark, is_whole, is_mantissa, is_exponent, is_number, weight_of}
use Rattle.import_lines.proofs.LinesCut.{none_passes}

-- ---- digits

and_assoc : (x y z : Bool) → (x && (y && z)) ≡ ((x && y) && z)
and_assoc true y z = refl
and_assoc false y z = refl

pub all_append : (front back : List ℕ) → all_ascii_digits (front ++ back) ≡ (all_ascii_digits front && all_ascii_digits back)
all_append [] back = refl
all_append (c ∷ cs) back = ap (λ t. is_ascii_digit c && t) (all_append cs back) ∙ and_assoc (is_ascii_digit c) (all_ascii_digits cs) (all_ascii_digits back)

whole_both : (c : ℕ) (cs back : List ℕ) → is_whole ((c ∷ cs) ++ back) ≡ (all_ascii_digits (c ∷ cs) && all_ascii_digits back)
whole_both c cs back =
    ap (λ t. not t && all_ascii_digits ((c ∷ cs) ++ back)) (ne_eqb (length ((c ∷ cs) ++ back)) 0 (λ (e : suc (length (cs ++ back)) ≡ 0). omega arith))
    ∙ all_append (c ∷ cs) back

whole_both_some : (front back : List ℕ) → (length front == 0) ≡ false → is_whole (front ++ back) ≡ (all_ascii_digits front && all_ascii_digits back)
whole_both_some [] back some = cc
whole_both_some (c ∷ cs) back some = whole_both c cs back

module _ (front back : List ℕ) (empty : Bool) (tells : empty ≡ (length front == 0)) (holds : empty ≡ false) where
  together : is_whole (front ++ back) ≡ (all_ascii_digits front && all_ascii_digits back)
  together = whole_both_some front back (sym tells ∙ holds)

  pub whole_back : (digits more : Bool) → digits ≡ all_ascii_digits front → digits ≡ true → more ≡ all_ascii_digits back → more ≡ is_whole (front ++ back)
  whole_back digits more is yes_all same = same ∙ sym (together ∙ rw (sym is ∙ yes_all) refl)

  pub whole_front : (digits : Bool) → digits ≡ all_ascii_digits front → digits ≡ false → digits ≡ is_whole (front ++ back)
  whole_front digits is not_all = not_all ∙ sym (together ∙ rw (sym is ∙ not_all) refl)

-- ---- numbers

both : (m x e : Bool) → m ≡ true → x ≡ true → (m && (x || e)) ≡ true
both true true e h g = refl
both true false e h g = cc
both false x e h g = cc

last : (m x e : Bool) → m ≡ true → x ≡ false → (m && (x || e)) ≡ e
last true false e h g = refl
last true true e h g = cc
last false x e h g = cc

module _ (bytes front : List ℕ) (place : ℕ) (mantissa : Bool) (at : place ≡ position_or_len is_exponent_mark bytes) (cut : front ≡ before_first is_exponent_mark bytes) (is : mantissa ≡ is_mantissa front) (holds : mantissa ≡ true) where
  mantissa_holds : is_mantissa (before_first is_exponent_mark bytes) ≡ true
  mantissa_holds = ap is_mantissa (sym cut) ∙ sym is ∙ holds

  marked : (place == length bytes) ≡ not (list_any is_exponent_mark bytes)
  marked = ap (λ p. p == length bytes) at ∙ none_passes is_exponent_mark bytes

  pub number_plain : place ≡ length bytes → (place == length bytes) ≡ is_number bytes
  number_plain end = let full = eq-eqb place (length bytes) end in full ∙ sym (both _ _ _ mantissa_holds (sym marked ∙ full))

  pub number_marked : (back : List ℕ) (exponent : Bool) → (place ≡ length bytes → ⊥) → back ≡ after_first is_exponent_mark bytes → exponent ≡ is_exponent back → exponent ≡ is_number bytes
  number_marked back exponent inside behind tells =
      let less = ne_eqb place (length bytes) inside in
      tells ∙ ap is_exponent behind ∙ sym (last _ _ _ mantissa_holds (sym marked ∙ less))

-- ---- weights

own : IsNumeralModel (λ ds. all_ascii_digits ds ≡ true) (digits_value 10)
own = numerals_by_value _ tells_all_ascii_digits

abbrev err_of : {E : Type 0} → E → Result ℕ E
err_of e = Err e

pub whole_digits : (word : List ℕ) → is_whole word ≡ true → all_ascii_digits word ≡ true
whole_digits [] whole = refl
whole_digits (c ∷ cs) whole = sym (ap (λ t. not t && all_ascii_digits (c ∷ cs)) (ne_eqb (length (c ∷ cs)) 0 (λ (e : suc (length cs) ≡ 0). omega arith))) ∙ whole

whole_some : (word : List ℕ) → is_whole word ≡ true → 0 < length word
whole_some [] whole = cc
whole_some (c ∷ cs) whole = omega arith

refused : {E : Type 0} (word : List ℕ) (e : E) → ParsesUnsigned 32 10 word (err_of e) → is_whole word ≡ true → digits_value 10 word < 2 ^ 32 → ⊥
refused word e h whole small =
    let k : OkIff (err_of e) ((0 < length word) × (digits_value 10 word < 2 ^ 32)) (digits_value 10 word) = parse_digits own 32 word (err_of e) h (whole_digits word whole) in
    k (whole_some word whole, small)

most_from : (n m : ℕ) → nat_le n m ≡ true → n ≤ m
most_from n m h = grind (arith, nat_tests)

-- a whole number that does not fit is too large
pub too_large : {E : Type 0} (word bytes : List ℕ) (e : E) (whole : Bool) → ParsesUnsigned 32 10 word (err_of e) → bytes ≡ word → whole ≡ is_whole bytes → whole ≡ true → Err WeightTooLarge ≡ weight_of None word
too_large word bytes e whole h same tells holds =
    let is : is_whole word ≡ true = ap is_whole (sym same) ∙ sym tells ∙ holds in
    elim (cases_Bool (nat_le (digits_value 10 word) most_weight)) [
      | inl small ↦ (let low : digits_value 10 word ≤ most_weight = most_from (digits_value 10 word) most_weight small in absurd (refused word e h is (omega (arith, low))))
      | inr large ↦ rw (is, large) refl
    ]
