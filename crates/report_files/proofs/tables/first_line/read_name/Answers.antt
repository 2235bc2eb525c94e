use Rattle.std.proofs.Common.{◌∙◌, ◌++◌, sym, subst}
use Rattle.std.specs.Fmt.{decimal}
use Rattle.rule_check.specs.WellFormed.{IsFieldName}
use Rattle.report_text.proofs.Digits.{number_once}
use Rattle.report_files.proofs.tables.FirstNames.{span_is, value_is, field_whole}
use Rattle.report_files.proofs.tables.first_line.read_name.Goals as goal

pub returns-in_err-name-clause-only : goal.returns-in_err-name-clause-only
returns-in_err-name-clause-only c name more value is small ends e =
    let s = span_is c.args.bytes.now c.in_ok-named.named.now name more value c.in_ok-named.ensures e is c.split_word.result.0.now c.split_word.result.1.now c.split_word.ensures in
    rw c.from_residual-in_err-name.ensures (c.in_err-name.ensures.name (subst IsFieldName (sym s.0) is))

pub returns-in_err-value-clause-only : goal.returns-in_err-value-clause-only
returns-in_err-value-clause-only c name more value is small ends e =
    let s = span_is c.args.bytes.now c.in_ok-named.named.now name more value c.in_ok-named.ensures e is c.split_word.result.0.now c.split_word.result.1.now c.split_word.ensures in
    rw c.from_residual-in_err-value.ensures (c.in_err-value.ensures (decimal value ++ more) s.1)

pub returns-in_err-rest-clause-only : goal.returns-in_err-rest-clause-only
returns-in_err-rest-clause-only c name more value is small ends e =
    let v = value_is c.args.bytes.now c.in_ok-named.named.now name more value c.in_ok-named.ensures e is c.split_word.result.0.now c.split_word.result.1.now c.split_word.ensures c.in_ok-value.value.now c.in_ok-value.ensures in
    rw c.from_residual-in_err-rest.ensures (c.in_err-rest.ensures value more small ends v)

pub returns-clause-only : goal.returns-clause-only
returns-clause-only c name more value is small ends e =
    let s = span_is c.args.bytes.now c.in_ok-named.named.now name more value c.in_ok-named.ensures e is c.split_word.result.0.now c.split_word.result.1.now c.split_word.ensures in
    let v = value_is c.args.bytes.now c.in_ok-named.named.now name more value c.in_ok-named.ensures e is c.split_word.result.0.now c.split_word.result.1.now c.split_word.ensures c.in_ok-value.value.now c.in_ok-value.ensures in
    let read = c.in_ok-rest.ensures in
    (c.in_ok-name.ensures.name.1 ∙ s.0, (number_once c.in_ok-rest.field-0-0 value c.in_ok-rest.rest.now more read.1 small read.2 ends (sym read.0 ∙ v)).1)

pub returns-clause-found : goal.returns-clause-found
returns-clause-found c =
    let read = c.in_ok-rest.ensures in
    let same = c.in_ok-name.ensures.name in
    (subst IsFieldName (sym same.1) same.0, read.2, (c.in_ok-rest.field-0-0, field_whole c.args.bytes.now c.in_ok-named.named.now c.split_word.result.0.now c.split_word.result.1.now c.in_ok-value.value.now c.in_ok-rest.rest.now c.in_ok-name.name.now c.in_ok-rest.field-0-0 c.in_ok-named.ensures c.split_word.ensures c.in_ok-value.ensures read.0 same.1))
