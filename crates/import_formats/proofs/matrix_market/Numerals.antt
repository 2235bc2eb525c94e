-- Whole numbers as words.
use Rattle.std.proofs.Common.{◌≡◌, None, inl, inr, ◌<◌, ◌^◌, ℕ, Bool, true, false, ◌&&◌, nat_lt, List, [], ◌∷◌, length, refl, sym, ap, ◌∙◌, arith, Result, Err}
use Rattle.std.specs.Result.{OkIff}
use Rattle.std.specs.Str.{all_ascii_digits}
use Rattle.std.specs.Str.Parse.{digits_value, ParsesUnsigned}
use Rattle.std.proofs.lemmas.Bool.{cases_Bool}
use Rattle.std.proofs.lemmas.Bool.Decides.{nat_tests}
use Rattle.std.proofs.lemmas.Str.Parse.{IsNumeralModel, numerals_by_value, tells_all_ascii_digits, parse_digits}
use Rattle.import_lines.specs.Weights.{is_whole}
use Rattle.import_formats.specs.matrix_market.Numbers.{number_of}

own : IsNumeralModel (λ ds. all_ascii_digits ds ≡ true) (digits_value 10)
own = numerals_by_value _ tells_all_ascii_digits

abbrev err_of : {E : Type 0} → E → Result ℕ E
err_of e = Err e

left : (a b : Bool) → (a && b) ≡ true → a ≡ true
left true b h = refl
left false b h = cc

right : (a b : Bool) → (a && b) ≡ true → b ≡ true
right true b h = h
right false b h = cc

whole_some : (word : List ℕ) → is_whole word ≡ true → 0 < length word
whole_some [] whole = cc
whole_some (c ∷ cs) whole = omega arith

less_from : (n m : ℕ) → nat_lt n m ≡ true → n < m
less_from n m h = grind (arith, nat_tests)

refused : {E : Type 0} (word : List ℕ) (e : E) → ParsesUnsigned 64 10 word (err_of e) → all_ascii_digits word ≡ true → 0 < length word → digits_value 10 word < 2 ^ 64 → ⊥
refused word e h digits some small =
    let k : OkIff (err_of e) ((0 < length word) × (digits_value 10 word < 2 ^ 64)) (digits_value 10 word) = parse_digits own 64 word (err_of e) h digits in
    k (some, small)

-- digits that are no number are empty or say one that does not fit
pub no_number : {E : Type 0} (word bytes : List ℕ) (e : E) (digits : Bool) → ParsesUnsigned 64 10 word (err_of e) → bytes ≡ word → digits ≡ all_ascii_digits bytes → digits ≡ true → None ≡ number_of word
no_number word bytes e digits h same tells holds =
    let is : all_ascii_digits word ≡ true = ap all_ascii_digits (sym same) ∙ sym tells ∙ holds in
    elim (cases_Bool (is_whole word && nat_lt (digits_value 10 word) (2 ^ 64))) [
      | inl good ↦ absurd (refused word e h is (whole_some word (left _ _ good)) (less_from _ _ (right _ _ good)))
      | inr bad ↦ rw bad refl
    ]
