use Rattle.std.proofs.Common.{◌∙◌, sym}
use Rattle.report_text.proofs.Digits.{parsed, too_large, unspelled}
use Rattle.report_text.proofs.number.spelled.Goals as goal

pub returns-then-has_needless_zero : goal.returns-then-has_needless_zero
returns-then-has_needless_zero c = record {
  number = λ n small. unspelled c.args.digits.now n (sym c.has_needless_zero.ensures ∙ c.if-has_needless_zero.true) small;
}

pub returns-in-Ok : goal.returns-in-Ok
returns-in-Ok c = record {
  number = parsed c.args.digits.now c.text.result.now c.in-Ok.value c.text.ensures.same c.requires.digits (sym c.has_needless_zero.ensures ∙ c.if-has_needless_zero.false) c.in-Ok.ensures.value.0;
}

pub returns-in-Err : goal.returns-in-Err
returns-in-Err c = record {
  number = λ n small. too_large c.args.digits.now c.text.result.now n c.text.ensures.same small c.in-Err.ensures.value.0;
}
