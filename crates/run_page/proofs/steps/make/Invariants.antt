use Rattle.std.proofs.Common.{◌≡◌, ◌++◌, drop, map}
use Rattle.serde_json.specs.View.{view}
use Rattle.unison_world.specs.Counting.{answers, run}
use Rattle.run_page.specs.Pages.{code_of, whole}
use Rattle.run_page.proofs.steps.make.Given as goal

abbrev pub invariant-loop-step : goal.invariant-loop-step
invariant-loop-step l =
    let network = l.initial.world.plan.network in
    let stop = l.initial.world.stop in
    let first = l.initial.world.counts in
    let here = l.world.counts in
    let left = drop l.step-index l.steps in
    record {
      same_plan : l.world.plan ≡ l.initial.world.plan;
      same_stop : l.world.stop ≡ l.initial.world.stop;
      answers : map view l.items.items ++ map whole (map code_of (answers network stop here left)) ≡ map whole (map code_of (answers network stop first l.steps));
      made : run network stop here left ≡ run network stop first l.steps;
    }
