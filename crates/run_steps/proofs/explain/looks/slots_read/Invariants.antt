use Rattle.std.proofs.Common.{◌≡◌, ◌+◌, ◌≤◌, drop}
use Rattle.unison_world.specs.Counting.{marks_of}
use Rattle.unison_world.specs.Progress.{marks_in}
use Rattle.run_steps.proofs.explain.looks.slots_read.Given as goal

abbrev pub invariant-loop-slot : goal.invariant-loop-slot
invariant-loop-slot l =
    record {
      count : l.read + marks_in (drop l.slot (marks_of l.world.counts l.node)) ≡ marks_in (marks_of l.world.counts l.node);
      few : l.read ≤ l.slot;
    }
