use Rattle.std.proofs.Common.{◌≡◌, ◌≤◌, List, length}
use Rattle.unison_world.specs.declared.step.Step.{Step}
use Rattle.unison_trace.specs.Histories.{run_of}
use Rattle.run_schedule.specs.Mixing.{changing_of}
use Rattle.run_schedule.proofs.Mixing.{PutSoFar}
use Rattle.run_schedule.proofs.refused.put_some_refused.Given as goal

abbrev pub invariant-loop-count : goal.invariant-loop-count
invariant-loop-count l =
    record {
      few : length l.steps.items ≤ l.limit;
      arrives : run_of l.world.plan l.world.stop l.steps.items ≡ l.world.counts;
      same : changing_of l.world.plan l.world.stop l.steps.items ≡ changing_of l.world.plan l.world.stop l.initial.steps.items;
      put : (refused : List Step) × PutSoFar l.world l.percent l.limit l._count l.initial.steps.items l.steps.items refused;
    }
