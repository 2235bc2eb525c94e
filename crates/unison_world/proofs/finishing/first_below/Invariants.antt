use Rattle.std.proofs.Common.{ℕ, ◌<◌, ◌≤◌}
use Rattle.unison_world.specs.Counting.{moves_of}
use Rattle.unison_world.specs.Pictures.{counts_of}
use Rattle.unison_world.proofs.finishing.first_below.Given as goal

abbrev pub invariant-loop-node : goal.invariant-loop-node
invariant-loop-node l = (v : ℕ) → v < l.node → l.stop ≤ moves_of (counts_of l.nodes.items) v
