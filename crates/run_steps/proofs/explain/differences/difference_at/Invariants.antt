use Rattle.std.proofs.Common.{◌≡◌, max, map, drop}
use Rattle.std.specs.Int.{abs_diff}
use Rattle.std.specs.List.{fold}
use Rattle.unison_world.specs.Counting.{moves_of}
use Rattle.run_steps.specs.explain.Differences.{differences, greatest_of}
use Rattle.run_steps.proofs.explain.differences.difference_at.Given as goal

abbrev pub invariant-loop-neighbour : goal.invariant-loop-neighbour
invariant-loop-neighbour l =
    fold max l.greatest (map (λ w. abs_diff (moves_of l.world.counts l.node) (moves_of l.world.counts w)) (drop l.neighbour-index l.neighbour-items)) ≡ greatest_of (differences l.world.plan.network l.world.counts l.node)
