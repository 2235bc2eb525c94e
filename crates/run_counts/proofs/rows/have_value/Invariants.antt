use Rattle.std.proofs.Common.{◌≡◌, drop}
use Rattle.std.specs.List.{list_all}
use Rattle.rounds_walk.specs.Counts.{has_value}
use Rattle.run_counts.proofs.rows.have_value.Given as goal

abbrev pub invariant-loop-state : goal.invariant-loop-state
invariant-loop-state l = list_all (has_value l.field l.value) (drop l.state-index l.states) ≡ list_all (has_value l.field l.value) l.states
