use Rattle.std.proofs.Common.{◌∙◌, sym}
use Rattle.std.specs.Char.{is_ascii_digit}
use Rattle.rule_lang.proofs.FirstTokens.{number_some, number_none, sign_none, sign_some, starts_at}
use Rattle.rule_lang.proofs.lex.first_token.Goals as goal

pub returns-in_err-value : goal.returns-in_err-value
returns-in_err-value c =
    let h = starts_at is_ascii_digit c.args.bytes.now c.in_ok-first.first.now c.in_ok-first.rest.now c.in_ok-first.ensures.cases.0 (sym c.is_ascii_digit.ensures.value ∙ c.if-is_ascii_digit.true) in
    rw c.from_residual-in_err-value.ensures (number_none c.args.bytes.now h c.in_err-value.ensures)

pub returns-then-is_ascii_digit : goal.returns-then-is_ascii_digit
returns-then-is_ascii_digit c =
    let h = starts_at is_ascii_digit c.args.bytes.now c.in_ok-first.first.now c.in_ok-first.rest.now c.in_ok-first.ensures.cases.0 (sym c.is_ascii_digit.ensures.value ∙ c.if-is_ascii_digit.true) in
    number_some c.args.bytes.now c.in_ok-value.rest.now c.in_ok-value.value h c.in_ok-value.ensures

pub returns-in_err-sign : goal.returns-in_err-sign
returns-in_err-sign c =
    rw c.from_residual-in_err-sign.ensures (sign_none c.args.bytes.now c.in_ok-first.first.now c.in_ok-first.rest.now c.in_ok-first.ensures.cases.0 c.in_err-sign.ensures (sym c.is_ascii_alphabetic.ensures.value ∙ c.if-is_ascii_alphabetic.false) (sym c.is_ascii_digit.ensures.value ∙ c.if-is_ascii_digit.false))

pub returns : goal.returns
returns c = sign_some c.args.bytes.now c.in_ok-first.first.now c.in_ok-first.rest.now c.in_ok-sign.rest.now c.in_ok-sign.sign c.in_ok-first.ensures.cases.0 c.in_ok-sign.ensures
