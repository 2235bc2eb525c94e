use Rattle.std.proofs.Common.{◌≡◌, ◌<◌, ℕ, true}
use Rattle.unison_world.specs.Counting.{is_marked}
use Rattle.run_steps.proofs.explain.looks.first_unread.Given as goal

abbrev pub invariant-loop-slot : goal.invariant-loop-slot
invariant-loop-slot l = (i : ℕ) → i < l.slot → is_marked l.world.counts l.node i ≡ true
