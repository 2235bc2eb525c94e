use Rattle.std.proofs.Common.{arith}
use Rattle.import_lines.proofs.Scaling.{exponent_down, exponent_up}
use Rattle.import_lines.proofs.scaled.with_exponent.Goals as goal

pub returns-then-lowering : goal.returns-then-lowering
returns-then-lowering c =
    exponent_down 100_000_000_000_000_000_000 c.args.number c.args.places c.power-power.result c.args.exponent.now c.split_sign-lowering.result.1.now c.split_sign-lowering.result.0 c.shifted.result
    c.split_sign-lowering.ensures.behind c.power-power.ensures c.split_sign-lowering.ensures.lowering c.requires.small (omega arith) c.if-lowering.true c.shifted.ensures

pub returns-else-lowering : goal.returns-else-lowering
returns-else-lowering c =
    exponent_up 100_000_000_000_000_000_000 c.args.number c.args.places c.power-power.result c.args.exponent.now c.split_sign-lowering.result.1.now c.split_sign-lowering.result.0 c.shifted-else-lowering.result
    c.split_sign-lowering.ensures.behind c.power-power.ensures c.split_sign-lowering.ensures.lowering (omega arith) c.if-lowering.false c.shifted-else-lowering.ensures
