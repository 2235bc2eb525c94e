use Rattle.std.proofs.Common.{◌≡◌, ◌++◌, drop}
use Rattle.unison_world.specs.Counting.{answers, run}
use Rattle.headline.proofs.steps.answers_to.Given as goal

abbrev pub invariant-loop-step : goal.invariant-loop-step
invariant-loop-step l = record {
  plan : l.world.plan ≡ l.initial.world.plan;
  stop : l.world.stop ≡ l.initial.world.stop;
  told : l.answers.items ++ answers l.world.plan.network l.world.stop l.world.counts (drop l.step-index l.steps) ≡ answers l.initial.world.plan.network l.initial.world.stop l.initial.world.counts l.steps;
  made : run l.world.plan.network l.world.stop l.world.counts (drop l.step-index l.steps) ≡ run l.initial.world.plan.network l.initial.world.stop l.initial.world.counts l.steps;
}
