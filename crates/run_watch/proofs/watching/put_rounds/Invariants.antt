use Rattle.std.proofs.Common.{◌≡◌, ◌≤◌, ◌++◌, ◌-◌, ◌<◌, [], map, string_bytes}
use Rattle.std.specs.List.{range_with_len}
use Rattle.run_watch.specs.Spans.{count_of, round_at, rounds_in}
use Rattle.run_watch.specs.Watching.{parts_text, states_in}
use Rattle.run_watch.proofs.watching.put_rounds.Given as goal

abbrev pub invariant-loop-place : goal.invariant-loop-place
invariant-loop-place g l = record {
  plan : l.walk.plan ≡ l.plan;
  late : l.place < count_of l.span → l.walk.round ≤ round_at l.span l.place;
  text : string_bytes l.out ++ parts_text l.plan l.show (states_in l.before) (map (round_at l.span) (range_with_len l.place (count_of l.span - l.place)))
      ≡ string_bytes l.initial.out ++ parts_text l.plan l.show [] (rounds_in l.span);
}
