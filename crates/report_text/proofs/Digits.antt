-- Digits and the numbers whose spelling they are.
use Rattle.std.proofs.Common.{◌≡◌, ◌≢◌, ℕ, ◌+◌, ◌<◌, ◌^◌, ◌==◌, true, false, List, [], ◌∷◌, ◌++◌, length, get_or, refl, sym, ap, ◌∙◌, subst, arith, rules, inl, inr, Result, Ok, Err}
use Rattle.std.specs.Fmt.{decimal}
use Rattle.std.specs.Char.{is_ascii_digit}
use Rattle.std.specs.Str.Parse.{digits_value, ParsesUnsigned}
use Rattle.std.proofs.lemmas.Bool.{cases_lt}
use Rattle.std.proofs.lemmas.Bool.Decides.{Decides-eqb}
use Rattle.std.proofs.lemmas.Fmt.{decimal-digits_value, decimal_digit, first_decimal, digits_decimal, decimal_injective, parse-decimal}
use Rattle.std.proofs.lemmas.Str.Parse.{IsNumeralModel, numerals_by_value, parse_digits}
use Rattle.rule_lang.specs.Tokens.{IsSpan}
use Rattle.rule_lang.proofs.Bytes.{span_same}
use Rattle.report_text.specs.Digits.{IsDigits, begins_zero}
use Rattle.report_text.specs.Front.{Ends}
use Rattle.report_text.proofs.Fronts.{Once}

pub own : IsNumeralModel (λ ds. IsDigits ds) (digits_value 10)
own = numerals_by_value _ (search rules)

-- digits whose first is a zero are that zero alone, if none is needless
alone : (ds : List ℕ) → begins_zero ds ≡ false → 0 < length ds → get_or ds 0 0 ≡ 48 → length ds ≡ 1
alone [] plain some first = absurd (omega arith)
alone (d ∷ []) plain some first = refl
alone (d ∷ e ∷ ds) plain some first = let is : (d == 48) ≡ true = (Decides-eqb d 48).1 first in let no : false ≡ true = sym plain ∙ is in cc

-- digits without a needless zero are the spelling of their number
pub spelling : (ds : List ℕ) (n : ℕ) → IsDigits ds → 0 < length ds → begins_zero ds ≡ false → n ≡ digits_value 10 ds → n < 2 ^ 32 → ds ≡ decimal n
spelling ds n each some plain is small =
    let bound : digits_value 10 ds < 2 ^ 64 = omega arith in
    sym (decimal-digits_value own ds each some (alone ds plain some) bound) ∙ ap decimal (sym is)

zero_first : (ds : List ℕ) → begins_zero ds ≡ true → (get_or ds 0 0 ≡ 48) × (1 < length ds)
zero_first [] zero = cc
zero_first (d ∷ []) zero = cc
zero_first (d ∷ e ∷ ds) zero = ((Decides-eqb d 48).0 zero, omega arith)

-- a needless zero begins no spelling
pub unspelled : (ds : List ℕ) (n : ℕ) → begins_zero ds ≡ true → n < 2 ^ 32 → ds ≢ decimal n
unspelled ds n zero small is =
    let z = zero_first ds zero in
    let wide : n < 2 ^ 64 = omega arith in
    elim (cases_lt n 10) [
      | inl h ↦ (let one : ds ≡ (48 + n) ∷ [] = is ∙ decimal_digit n h in let len : length ds ≡ 1 = ap length one in absurd (omega (arith, z.1)))
      | inr h ↦ (let big : 48 < get_or (decimal n) 0 0 = first_decimal n (omega arith) wide in let same : get_or ds 0 0 ≡ get_or (decimal n) 0 0 = ap (λ b. get_or b 0 0) is in absurd (omega (arith, z.0)))
    ]

-- what reading digits says of their spelling
pub parsed : (ds text : List ℕ) (n : ℕ) → text ≡ ds → IsDigits ds → begins_zero ds ≡ false → ParsesUnsigned {E = ℕ} 32 10 text (Ok n) → ds ≡ decimal n
parsed ds text n same each plain reads =
    let each_too : IsDigits text = subst IsDigits (sym same) each in
    let value = parse_digits own {E = ℕ} 32 text (Ok n) reads each_too in
    sym same ∙ spelling text n each_too value.0.0 (subst (λ d. begins_zero d ≡ false) (sym same) plain) value.1 (rw value.1 value.0.1)

pub too_large : (ds text : List ℕ) (n : ℕ) → text ≡ ds → n < 2 ^ 32 → ParsesUnsigned {E = ℕ} 32 10 text (Err 0) → ds ≢ decimal n
too_large ds text n same small reads is =
    let gives : ◌≡◌ {A = Result ℕ ℕ} (Err 0) (Ok n) = parse-decimal {E = ℕ} 32 n text (Err 0) small (omega arith) (same ∙ is) reads in cc

-- the digits of a spelling
pub decimal_digits : (n : ℕ) → n < 2 ^ 32 → IsDigits (decimal n)
decimal_digits n small = digits_decimal own n (omega arith)

-- where a number stands in front of no digit, only one number does
pub number_once : (m n : ℕ) (rest more : List ℕ) → m < 2 ^ 32 → n < 2 ^ 32 → Ends rest → Ends more → decimal m ++ rest ≡ decimal n ++ more → (m ≡ n) × (rest ≡ more)
number_once m n rest more small tiny ends stops same =
    let first : IsSpan is_ascii_digit (decimal m ++ rest) (decimal m) rest = record { cut = refl; each = decimal_digits m small; stops = ends } in
    let second : IsSpan is_ascii_digit (decimal m ++ rest) (decimal n) more = record { cut = same; each = decimal_digits n tiny; stops = stops } in
    let parts = span_same is_ascii_digit (decimal m ++ rest) (decimal m) rest (decimal n) more first second in
    (decimal_injective m n (omega arith) (omega arith) parts.0, parts.1)

-- no number stands in front of these digits' end
pub no_number : (bytes ds rest : List ℕ) → IsSpan is_ascii_digit bytes ds rest → ((n : ℕ) → n < 2 ^ 32 → ds ≢ decimal n) → (n : ℕ) (behind : List ℕ) → n < 2 ^ 32 → Ends behind → bytes ≢ decimal n ++ behind
no_number bytes ds rest span none n behind small ends is =
    let other : IsSpan is_ascii_digit bytes (decimal n) behind = record { cut = is; each = decimal_digits n small; stops = ends } in
    none n small (span_same is_ascii_digit bytes ds rest (decimal n) behind span other).0

pub numbers_once : Once decimal (λ n. n < 2 ^ 32)
numbers_once m n rest more small tiny ends stops same = number_once m n rest more small tiny ends stops same
