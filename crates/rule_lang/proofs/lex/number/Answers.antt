use Rattle.std.proofs.Common.{ℕ, List, ◌<◌, ◌^◌, rules, length, Result, Err}
use Rattle.std.specs.Result.{OkIff}
use Rattle.std.specs.Prelude.{IsTrue}
use Rattle.std.specs.List.{AllByRecursion}
use Rattle.std.specs.Char.{is_ascii_digit}
use Rattle.std.specs.Str.Parse.{digits_value, ParsesUnsigned}
use Rattle.std.proofs.lemmas.Str.Parse.{IsNumeralModel, numerals_by_value, parse_digits}
use Rattle.rule_lang.proofs.FirstTokens.{digits_some}
use Rattle.rule_lang.proofs.lex.number.Goals as goal

abbrev err_of : {E : Type 0} → E → Result ℕ E
err_of e = Err e

own : IsNumeralModel (λ ds. AllByRecursion (λ c. IsTrue (is_ascii_digit c)) ds) (digits_value 10)
own = numerals_by_value _ (search rules)

refused : {E : Type 0} (ds : List ℕ) (e : E) → ParsesUnsigned 32 10 ds (err_of e) → AllByRecursion (λ c. IsTrue (is_ascii_digit c)) ds → 0 < length ds → digits_value 10 ds < 2 ^ 32 → ⊥
refused ds e h a n small = let k : OkIff (err_of e) ((0 < length ds) × (digits_value 10 ds < 2 ^ 32)) (digits_value 10 ds) = parse_digits own 32 ds (err_of e) h a in k (n, small)

pub returns-in-Err : goal.returns-in-Err
returns-in-Err c =
    (c.split_digits.result.0.now, c.split_digits.result.1.now, c.split_digits.ensures, λ small. refused c.split_digits.result.0.now c.in-Err.field-0 c.in-Err.ensures.value.0 c.split_digits.ensures.each (digits_some c.args.bytes.now c.split_digits.result.0.now c.split_digits.result.1.now c.requires c.split_digits.ensures) small)
