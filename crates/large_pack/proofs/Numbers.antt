-- Numbers of nodes as words.
use Rattle.std.proofs.Common.{◌≡◌, inl, inr, ◌<◌, ◌≤◌, ◌^◌, ℕ, suc, Bool, true, not, ◌&&◌, nat_le, List, [], ◌∷◌, length, refl, sym, ap, ◌∙◌, arith, Result, Err}
use Rattle.std.specs.Result.{OkIff}
use Rattle.std.specs.Str.{all_ascii_digits}
use Rattle.std.specs.Str.Parse.{digits_value, ParsesUnsigned}
use Rattle.std.proofs.lemmas.Bool.{cases_Bool, ne_eqb}
use Rattle.std.proofs.lemmas.Bool.Decides.{nat_tests}
use Rattle.std.proofs.lemmas.Str.Parse.{IsNumeralModel, numerals_by_value, tells_all_ascii_digits, parse_digits}
use Rattle.import_lines.specs.Weights.{is_whole}
use Rattle.large_pack.specs.declared.fault.NodeFault.TheVariants.{NodeTooLarge}
use Rattle.large_pack.specs.Lines.{most_node, node_of}

own : IsNumeralModel (λ ds. all_ascii_digits ds ≡ true) (digits_value 10)
own = numerals_by_value _ tells_all_ascii_digits

abbrev err_of : {E : Type 0} → E → Result ℕ E
err_of e = Err e

whole_digits : (word : List ℕ) → is_whole word ≡ true → all_ascii_digits word ≡ true
whole_digits [] whole = refl
whole_digits (c ∷ cs) whole = sym (ap (λ t. not t && all_ascii_digits (c ∷ cs)) (ne_eqb (length (c ∷ cs)) 0 (λ (e : suc (length cs) ≡ 0). omega arith))) ∙ whole

whole_some : (word : List ℕ) → is_whole word ≡ true → 0 < length word
whole_some [] whole = cc
whole_some (c ∷ cs) whole = omega arith

refused : {E : Type 0} (word : List ℕ) (e : E) → ParsesUnsigned 32 10 word (err_of e) → is_whole word ≡ true → digits_value 10 word < 2 ^ 32 → ⊥
refused word e h whole small =
    let k : OkIff (err_of e) ((0 < length word) × (digits_value 10 word < 2 ^ 32)) (digits_value 10 word) = parse_digits own 32 word (err_of e) h (whole_digits word whole) in
    k (whole_some word whole, small)

most_from : (n m : ℕ) → nat_le n m ≡ true → n ≤ m
most_from n m h = grind (arith, nat_tests)

-- a whole number that does not fit is too large
pub too_large : {E : Type 0} (word bytes : List ℕ) (e : E) (whole : Bool) → ParsesUnsigned 32 10 word (err_of e) → bytes ≡ word → whole ≡ is_whole bytes → whole ≡ true → Err NodeTooLarge ≡ node_of word
too_large word bytes e whole h same tells holds =
    let is : is_whole word ≡ true = ap is_whole (sym same) ∙ sym tells ∙ holds in
    elim (cases_Bool (nat_le (digits_value 10 word) most_node)) [
      | inl small ↦ (let low : digits_value 10 word ≤ most_node = most_from (digits_value 10 word) most_node small in absurd (refused word e h is (omega (arith, low))))
      | inr large ↦ rw (is, large) refl
    ]
