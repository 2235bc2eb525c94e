use Rattle.std.proofs.Common.{arith}
use Rattle.import_lines.proofs.Digits.{digits_rest, cap_step}
use Rattle.import_lines.proofs.scaled.power.Goals as goal

pub loop-byte-preserved : goal.loop-byte-preserved
loop-byte-preserved c = record {
  digits = digits_rest c.args.digits.now c.loop-byte.byte-index c.loop-byte-test.true c.loop-byte.invariant.digits;
  bound = omega arith;
  read = cap_step 100_000_000_000_000_000_000 _ c.loop-byte.value c.digit.result c.min-value.result c.loop-byte.byte-index c.args.digits.now c.loop-byte-test.true c.loop-byte.invariant.read c.digit.ensures.value c.min-value.ensures;
}
