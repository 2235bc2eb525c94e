use Rattle.std.proofs.Common.{◌≡◌, ◌++◌, drop, map, take}
use Rattle.run_cuts.specs.Cuts.{occasion}
use Rattle.run_cuts.specs.Counting.{after_one, here_of}
use Rattle.run_cuts.proofs.tally.note_all.Given as goal

abbrev pub invariant-loop-each : goal.invariant-loop-each
invariant-loop-each l =
    l.counted ≡ map (after_one (here_of l.node) (occasion l.node.round l.node.id)) (take l.each-index l.initial.counted) ++ drop l.each-index l.initial.counted
