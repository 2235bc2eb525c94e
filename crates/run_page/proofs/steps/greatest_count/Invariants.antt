use Rattle.std.proofs.Common.{◌≡◌, ◌≤◌, max, drop}
use Rattle.std.specs.List.{fold}
use Rattle.rounds_plan.specs.Configs.{most_rounds}
use Rattle.run_page.proofs.steps.greatest_count.Given as goal

abbrev pub invariant-loop-node : goal.invariant-loop-node
invariant-loop-node l = record {
  count : fold max l.greatest (drop l.node l.world.counts.moves) ≡ fold max l.world.plan.start l.world.counts.moves;
  late : l.world.plan.start ≤ l.greatest;
  limit : l.greatest ≤ most_rounds;
}
