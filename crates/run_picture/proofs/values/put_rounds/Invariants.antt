use Rattle.std.proofs.Common.{◌≡◌, ◌≤◌, ◌++◌, ◌-◌, ◌<◌, map}
use Rattle.std.specs.List.{flat_map, range_with_len}
use Rattle.run_watch.specs.Spans.{count_of, round_at}
use Rattle.run_picture.specs.Frames.{values_after, values_drawn}
use Rattle.run_picture.proofs.values.put_rounds.Given as goal

abbrev pub invariant-loop-place : goal.invariant-loop-place
invariant-loop-place g l =
    let s = l.drawing.span.now in
    let field = l.drawing.colouring.field in
    record {
      plan : l.walk.plan ≡ l.initial.walk.plan;
      late : l.place < count_of s → l.walk.round ≤ round_at s l.place;
      values : l.values.items ++ flat_map (values_after l.initial.walk.plan field) (map (round_at s) (range_with_len l.place (count_of s - l.place)))
          ≡ l.initial.values.items ++ values_drawn l.initial.walk.plan l.drawing;
    }
