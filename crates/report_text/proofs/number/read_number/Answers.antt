use Rattle.report_text.proofs.Digits.{no_number}
use Rattle.report_text.proofs.number.read_number.Goals as goal

pub returns-in_err-value : goal.returns-in_err-value
returns-in_err-value c =
    rw c.from_residual.ensures (no_number c.args.bytes.now c.split_digits.result.0.now c.split_digits.result.1.now c.split_digits.ensures c.in_err-value.ensures.number)
