use Rattle.std.proofs.Common.{ℕ, ◌<◌, ◌≤◌, get_or}
use Rattle.unison_world.specs.Counting.{moves_of}
use Rattle.unison_world.specs.Pictures.{counts_of}
use Rattle.unison_world.proofs.turns.some_behind.Given as goal

abbrev pub invariant-loop-slot : goal.invariant-loop-slot
invariant-loop-slot l = (k : ℕ) → k < l.slot → moves_of (counts_of l.nodes.items) l.node ≤ moves_of (counts_of l.nodes.items) (get_or l.neighbours k 0)
