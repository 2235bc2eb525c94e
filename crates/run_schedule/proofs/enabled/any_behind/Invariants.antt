use Rattle.std.proofs.Common.{ℕ, ◌<◌, ◌≤◌, get_or}
use Rattle.unison_world.specs.Counting.{moves_of}
use Rattle.run_schedule.proofs.enabled.any_behind.Given as goal

abbrev pub invariant-loop-slot : goal.invariant-loop-slot
invariant-loop-slot l = (k : ℕ) → k < l.slot → moves_of l.walk.world.counts l.node ≤ moves_of l.walk.world.counts (get_or l.neighbours k 0)
