use Rattle.std.proofs.Common.{◌≡◌, ◌≤◌, ◌<◌, ◌++◌, ◌-◌, All, map}
use Rattle.std.specs.List.{range_with_len}
use Rattle.rounds_plan.specs.Lockstep.{lockstep_config}
use Rattle.run_watch.specs.Spans.{count_of, round_at, rounds_in}
use Rattle.run_counts.specs.Rows.{IsRowOf, RowView, rounds_until}
use Rattle.run_counts.proofs.rows.rows_of.Given as goal

abbrev pub invariant-loop-place : goal.invariant-loop-place
invariant-loop-place g l = record {
  plan : l.walk.plan ≡ l.initial.walk.plan;
  late : l.place < count_of l.span → l.walk.round ≤ round_at l.span l.place;
  rounds : map (λ (row : RowView). row.round) l.rows.items
      ++ rounds_until l.initial.walk.plan l.counting.until (map (round_at l.span) (range_with_len l.place (count_of l.span - l.place)))
      ≡ rounds_until l.initial.walk.plan l.counting.until (rounds_in l.span);
  each : All (λ (row : RowView). IsRowOf l.counting (lockstep_config l.initial.walk.plan row.round) row) l.rows.items;
}
