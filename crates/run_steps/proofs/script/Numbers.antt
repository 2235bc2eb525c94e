-- Words that are numbers.
use Rattle.std.proofs.Common.{◌≡◌, ◌≢◌, ◌↔◌, ℕ, ◌<◌, ◌^◌, ◌==◌, Bool, true, false, ◌&&◌, List, [], ◌∷◌, ◌++◌, length, nat_lt, refl, sym, ap, ◌∙◌, append-nil, Option, Some, None, inl, inr, arith}
use Rattle.std.specs.Fmt.{decimal}
use Rattle.std.specs.Str.{bytes_eq}
use Rattle.std.specs.Str.Parse.{digits_value}
use Rattle.std.proofs.lemmas.Bool.{cases_Bool}
use Rattle.std.proofs.lemmas.Bool.Decides.{nat_tests, Decides-eqb}
use Rattle.std.proofs.lemmas.Fmt.{decimal_is_IsNumeral}
use Rattle.std.proofs.lemmas.Slice.Eq.{bytes_eq-Decides}
use Rattle.report_text.specs.Front.{Ends}
use Rattle.report_text.proofs.Digits.{number_once}
use Rattle.run_steps.specs.script.Words.{number_in}

pub and-split : (a b : Bool) → (a && b) ≡ true → (a ≡ true) × (b ≡ true)
and-split true b h = (refl, h)
and-split false b h = cc

pub and-join : (a b : Bool) → a ≡ true → b ≡ true → (a && b) ≡ true
and-join true b h k = k
and-join false b h k = cc

-- whether a word is the spelling of the value of its digits
abbrev spells : List ℕ → Bool
spells word = bytes_eq (decimal (digits_value 10 word)) word && nat_lt (digits_value 10 word) (2 ^ 32)

spelled : (word : List ℕ) → spells word ≡ true → (decimal (digits_value 10 word) ≡ word) × (digits_value 10 word < 2 ^ 32)
spelled word h =
    let both = and-split (bytes_eq (decimal (digits_value 10 word)) word) (nat_lt (digits_value 10 word) (2 ^ 32)) h in
    let t = both.1 in
    ((bytes_eq-Decides (decimal (digits_value 10 word)) word).0 both.0, grind (arith, nat_tests))

unspelled : (word : List ℕ) → (spells word ≡ true → ⊥) → number_in word ≡ None
unfolding number_in
unspelled word never =
    elim (cases_Bool (spells word)) [
      | inl is ↦ absurd (never is)
      | inr other ↦ rw other refl
    ]

-- no number stands at the front
pub number-none : (word bytes : List ℕ) → bytes ≡ word → ((n : ℕ) (behind : List ℕ) → n < 2 ^ 32 → Ends behind → bytes ≢ decimal n ++ behind) → number_in word ≡ None
number-none word bytes same none =
    unspelled word (λ h.
    let is = spelled word h in
    none (digits_value 10 word) [] is.1 tt (same ∙ sym is.0 ∙ sym (append-nil (decimal (digits_value 10 word)))))

-- something stands after the number at the front
pub number-more : (word bytes rest : List ℕ) (n : ℕ) → bytes ≡ word → bytes ≡ decimal n ++ rest → n < 2 ^ 32 → Ends rest → false ≡ (length rest == 0) → number_in word ≡ None
number-more word bytes rest n same cut small ends some =
    unspelled word (λ h.
    let is = spelled word h in
    let both : decimal n ++ rest ≡ decimal (digits_value 10 word) ++ [] = sym cut ∙ same ∙ sym is.0 ∙ sym (append-nil (decimal (digits_value 10 word))) in
    let end : rest ≡ [] = (number_once n (digits_value 10 word) rest [] small is.1 ends tt both).1 in
    let full : (length rest == 0) ≡ true = (Decides-eqb (length rest) 0).1 (ap length end) in
    let bad : false ≡ true = some ∙ full in
    cc)

-- the number is all of the word
pub number-some : (word bytes rest : List ℕ) (n : ℕ) → bytes ≡ word → bytes ≡ decimal n ++ rest → n < 2 ^ 32 → true ≡ (length rest == 0) → number_in word ≡ Some n
unfolding number_in
number-some word bytes [] n same cut small none =
    let word-is : word ≡ decimal n = sym same ∙ cut ∙ append-nil (decimal n) in
    let value : digits_value 10 word ≡ n = ap (digits_value 10) word-is ∙ (decimal_is_IsNumeral n (omega arith)).1 in
    let whole : bytes_eq (decimal (digits_value 10 word)) word ≡ true = (bytes_eq-Decides (decimal (digits_value 10 word)) word).1 (ap decimal value ∙ sym word-is) in
    let fits : nat_lt (digits_value 10 word) (2 ^ 32) ≡ true = grind (arith, nat_tests) in
    let is : spells word ≡ true = and-join (bytes_eq (decimal (digits_value 10 word)) word) (nat_lt (digits_value 10 word) (2 ^ 32)) whole fits in
    rw is (ap Some value)
number-some word bytes (b ∷ rest) n same cut small none = (let e = (Decides-eqb (length (b ∷ rest)) 0).0 (sym none) in absurd (omega arith))

-- a word that is read as a number is its spelling
pub number-spelled : (word : List ℕ) (n : ℕ) → number_in word ≡ Some n → (word ≡ decimal n) × (n < 2 ^ 32)
unfolding number_in
number-spelled word n h =
    elim (cases_Bool (spells word)) [
      | inl is ↦ (
          let w = spelled word is in
          let some : Some (digits_value 10 word) ≡ Some n = rw is at h in
          let same : digits_value 10 word ≡ n = cc in
          (sym w.0 ∙ ap decimal same, omega (arith, w.1)))
      | inr other ↦ (let none : ◌≡◌ {A = Option ℕ} None (Some n) = rw other at h in absurd (cc))
    ]

-- and the spelling of a number is read as it
pub number-of : (n : ℕ) → n < 2 ^ 32 → number_in (decimal n) ≡ Some n
number-of n small = number-some (decimal n) (decimal n) [] n refl (sym (append-nil (decimal n))) small refl

-- what is read of a word is the number that it spells
pub numbers-read : (word : List ℕ) (r : Option ℕ) → r ≡ number_in word → (n : ℕ) → (r ≡ Some n) ↔ (n < 2 ^ 32) × (word ≡ decimal n)
numbers-read word r is n = (λ h. (let s = number-spelled word n (sym is ∙ h) in (s.1, s.0)), λ h. is ∙ ap number_in h.1 ∙ number-of n h.0)
