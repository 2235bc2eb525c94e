use Rattle.std.proofs.Common.{arith}
use Rattle.std.proofs.lemmas.Grind.{common_steps}
use Rattle.rounds_plan.proofs.Marks.{fresh_twice}
use Rattle.rounds_plan.proofs.opening.repeats_node.Goals as goal

pub returns-then-seen-node : goal.returns-then-seen-node
returns-then-seen-node c = record {
  twice = let whole = fresh_twice c.args.seen.now c.args.pairs.now c.requires.fresh c.requires.nodes in
      grind (arith, common_steps);
}

pub returns : goal.returns
returns c = record {
  twice = let whole = fresh_twice c.args.seen.now c.args.pairs.now c.requires.fresh c.requires.nodes in
      grind (arith, common_steps);
}
