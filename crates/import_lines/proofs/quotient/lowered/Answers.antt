use Rattle.std.proofs.Common.{arith}
use Rattle.import_lines.proofs.Quotients.{lowered_small, power_most, ten_power}
use Rattle.import_lines.proofs.quotient.lowered.Goals as goal

pub returns-then-power-ge30 : goal.returns-then-power-ge30
returns-then-power-ge30 c = lowered_small c.args.number c.args.power c.requires c.if-power-ge30.true

pub pow-part-requires : goal.pow-part-requires
pow-part-requires c = omega (arith, power_most c.args.power c.if-power-ge30.false)

pub overflow_add-number : goal.overflow_add-number
overflow_add-number c = omega (arith, power_most c.args.power c.if-power-ge30.false)

pub overflow_mul-part : goal.overflow_mul-part
overflow_mul-part c = omega (arith, power_most c.args.power c.if-power-ge30.false)

pub nonzero_div-number : goal.nonzero_div-number
nonzero_div-number c = omega (arith, ten_power c.args.power)

pub nonzero_rem-number : goal.nonzero_rem-number
nonzero_rem-number c = omega (arith, ten_power c.args.power)
