use Rattle.std.proofs.Common.{ℕ, ◌<◌, ◌^◌}
use Rattle.std.specs.Fmt.{decimal}
use Rattle.report_text.proofs.Digits.{numbers_once}
use Rattle.report_text.proofs.Fronts.{line_open}
use Rattle.unison_trace.proofs.schedule_reader.read_last.Goals as goal

pub returns-in_err-more : goal.returns-in_err-more
returns-in_err-more c =
    let read = c.in_ok-number.ensures in
    rw c.from_residual-in_err-more.ensures (
    line_open decimal (λ (n : ℕ). n < 2 ^ 32) c.args.bytes.now c.in_ok-number.end.now c.in_ok-number.number numbers_once read.0 read.1 read.2 c.in_err-more.ensures)
