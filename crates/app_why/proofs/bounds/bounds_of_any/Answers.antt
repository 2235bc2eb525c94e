use Rattle.std.proofs.Common.{arith}
use Rattle.rule_check.specs.Table.{M}
use Rattle.rule_ranges.specs.declared.bounds.Bounds.{Bounds}
use Rattle.app_why.proofs.Within.{node_within}
use Rattle.app_why.proofs.bounds.bounds_of_any.Goals as goal

pub returns : goal.returns
returns c = record {
  within = λ network fields round u ranges at whole weights inside early states.
      let bounds : Bounds = record { id = 65535; degree = 4096; weight = M; round = 1000000000 } in
      node_within bounds network fields round u ranges at whole.within (omega (arith, whole.nodes)) whole.degrees weights early inside states;
  degree = λ network u whole. whole.degrees u;
}
