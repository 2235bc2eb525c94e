use Rattle.std.proofs.Common.{◌≡◌, ◌-◌, ◌++◌, map}
use Rattle.std.specs.List.{range_with_len}
use Rattle.run_watch.specs.Spans.{count_of, round_at, rounds_in}
use Rattle.serde_json.specs.View.{view}
use Rattle.run_page.specs.Pages.{whole}
use Rattle.run_page.proofs.states.round_numbers.Given as goal

abbrev pub invariant-loop-place : goal.invariant-loop-place
invariant-loop-place l =
    map view l.items.items ++ map whole (map (round_at l.span) (range_with_len l.place (count_of l.span - l.place))) ≡ map whole (rounds_in l.span)
