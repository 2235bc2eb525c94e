use Rattle.std.proofs.Common.{◌≡◌, ℕ, ◌+◌, ◌<◌, ◌≤◌}
use Rattle.rounds_walk.specs.Walking.{AreAlike}
use Rattle.run_settle.proofs.tail.first_round.Given as goal

abbrev pub invariant-loop-round : goal.invariant-loop-round
invariant-loop-round g l =
    let p = l.course.start.now in
    record {
      late : p.start ≤ l.round;
      behind : l.behind ≡ record { plan = p; round = l.round };
      ahead : l.ahead ≡ record { plan = p; round = l.round + l.period };
      first : (e : ℕ) → p.start ≤ e → e < l.round → AreAlike p e (e + l.period) → ⊥;
    }
