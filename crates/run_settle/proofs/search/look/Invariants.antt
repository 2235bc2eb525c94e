use Rattle.std.proofs.Common.{◌≡◌, ◌+◌}
use Rattle.run_settle.specs.Outcomes.{IsRestless}
use Rattle.run_settle.specs.Searching.{IsAway}
use Rattle.run_settle.proofs.search.look.Given as goal

abbrev pub invariant-loop-step : goal.invariant-loop-step
invariant-loop-step g l =
    let first = l.initial.walk in
    record {
      there : l.walk ≡ record { plan = first.plan; round = first.round + l._step };
      restless : IsRestless first.plan (first.round + l._step);
      away : IsAway first.plan first.round (first.round + l._step + 1);
    }
