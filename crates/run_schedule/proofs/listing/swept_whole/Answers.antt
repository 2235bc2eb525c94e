use Rattle.run_schedule.specs.Sweeps.{sweeps_of}
use Rattle.run_schedule.proofs.Ending.{opens-late}
use Rattle.run_schedule.proofs.Sweeping.{front-of-whole, sweeps-whole}
use Rattle.run_schedule.proofs.listing.swept_whole.Goals as goal

pub returns-clause-swept : goal.returns-clause-swept
returns-clause-swept c =
    let plan = c.args.plan.now in
    let stop = c.args.stop in
    let exact = c.in_ok-steps.ensures.exact in
    record {
      exact = exact;
      goes = front-of-whole plan stop c.args.limit (sweeps_of plan stop) c.in_ok-steps.steps.items (sweeps-whole plan stop c.phase-phase.ensures.whole (opens-late plan stop c.requires.opens)) exact;
    }
