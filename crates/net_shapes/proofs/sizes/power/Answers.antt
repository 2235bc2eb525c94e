use Rattle.std.proofs.Common.{◌≤◌, ◌^◌, arith}
use Rattle.std.proofs.Math.Nat.{pow-le-pow_right}
use Rattle.net_shapes.proofs.sizes.power.Goals as goal

pub returns-clause-bound : goal.returns-clause-bound
returns-clause-bound c =
    let small : 2 ^ c.args.exponent ≤ 2 ^ 30 = pow-le-pow_right (omega arith) c.requires in
    rw c.pow.ensures small

pub returns-clause-few : goal.returns-clause-few
returns-clause-few c = λ few.
    let small : 2 ^ c.args.exponent ≤ 2 ^ 16 = pow-le-pow_right (omega arith) few in
    rw c.pow.ensures small
