use Rattle.std.proofs.Common.{◌≡◌, ◌+◌, ◌++◌, max, drop, string_bytes}
use Rattle.std.specs.List.{fold}
use Rattle.std.specs.Option.{option_map}
use Rattle.unison_world.specs.Counting.{answers, run}
use Rattle.run_steps.specs.explain.Differences.{differences_after, greatest_difference}
use Rattle.run_steps.specs.Previous.{HasPrevious}
use Rattle.run_steps.specs.explain.Summaries.{answered_in, total, with_answer}
use Rattle.run_steps.specs.explain.Telling.{step_lines}
use Rattle.run_steps.proofs.explain.telling.tell_steps.Given as goal

abbrev pub invariant-loop-index : goal.invariant-loop-index
invariant-loop-index l =
    let plan = l.initial.world.plan in
    let network = plan.network in
    let names = option_map (λ n. n.now) l.names in
    let stop = l.initial.world.stop in
    let first = l.initial.world.counts in
    let here = l.world.counts in
    let left = drop l.index l.steps in
    record {
      same_plan : l.world.plan ≡ l.initial.world.plan;
      same_stop : l.world.stop ≡ l.initial.world.stop;
      previous : HasPrevious l.world l.previous;
      lines : string_bytes l.out ++ step_lines names l.show plan stop (l.index + 1) here left ≡ string_bytes l.initial.out ++ step_lines names l.show plan stop 1 first l.steps;
      made : run network stop here left ≡ run network stop first l.steps;
      tally : fold with_answer l.answered (answers network stop here left) ≡ answered_in (answers network stop first l.steps);
      far : fold max l.difference (differences_after network stop here left) ≡ greatest_difference network stop first l.steps;
      many : total l.answered ≡ l.index;
    }
