use Rattle.std.proofs.Common.{◌≡◌, ◌≤◌, ◌<◌, ◌-◌, ◌++◌, ℕ, map}
use Rattle.std.specs.List.{range_with_len}
use Rattle.run_watch.specs.Spans.{count_of, round_at, rounds_in}
use Rattle.serde_json.specs.View.{view}
use Rattle.run_page.specs.Pages.{numbers, values_at}
use Rattle.run_page.proofs.states.round_values.Given as goal

abbrev pub invariant-loop-place : goal.invariant-loop-place
invariant-loop-place g l =
    let plan = l.initial.walk.plan in
    let value = λ (t : ℕ). numbers (values_at plan l.fields t) in
    record {
      plan : l.walk.plan ≡ plan;
      late : l.place < count_of l.span → l.walk.round ≤ round_at l.span l.place;
      states : map view l.items.items ++ map value (map (round_at l.span) (range_with_len l.place (count_of l.span - l.place))) ≡ map value (rounds_in l.span);
    }
