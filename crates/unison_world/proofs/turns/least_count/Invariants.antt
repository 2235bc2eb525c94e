use Rattle.std.proofs.Common.{ℕ, ◌<◌, ◌≤◌}
use Rattle.unison_world.specs.Counting.{moves_of}
use Rattle.unison_world.specs.Pictures.{counts_of}
use Rattle.unison_world.proofs.turns.least_count.Given as goal

abbrev pub invariant-loop-node : goal.invariant-loop-node
invariant-loop-node l =
    record {
      least : (u : ℕ) → u < l.node → l.least ≤ moves_of (counts_of l.nodes.items) u;
      stop : l.least ≤ l.stop;
    }
