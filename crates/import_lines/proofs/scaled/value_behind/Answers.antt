use Rattle.import_lines.proofs.Digits.{too_long}
use Rattle.import_lines.proofs.scaled.value_behind.Goals as goal

pub returns-then-longer : goal.returns-then-longer
returns-then-longer c = too_long _ c.loop-byte.value c.digit.result c.loop-byte.byte-index c.args.digits.now c.loop-byte-test.true c.loop-byte.invariant.read c.digit.ensures.value c.if-longer.true
