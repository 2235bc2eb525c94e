use Rattle.std.proofs.Common.{◌≡◌, ◌+◌, ◌-◌, ◌≤◌}
use Rattle.run_settle.specs.Outcomes.{IsRestless}
use Rattle.run_settle.proofs.search.search.Given as goal

abbrev pub invariant-loop-reach : goal.invariant-loop-reach
invariant-loop-reach g l =
    let p = l.course.start.now in
    record {
      plan : l.walk.plan ≡ p;
      mark : l.mark ≡ l.walk;
      some : 1 ≤ l.reach;
      within : l.reach ≤ l.length + 1;
      here : l.walk.round + 1 ≡ p.start + l.reach;
      restless : IsRestless p l.walk.round;
    }

abbrev pub decreases-loop-reach : goal.decreases-loop-reach
decreases-loop-reach g l = l.length - l.reach
