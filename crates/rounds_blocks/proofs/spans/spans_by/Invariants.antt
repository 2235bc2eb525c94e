use Rattle.std.proofs.Common.{◌≡◌, length}
use Rattle.rounds_blocks.specs.Spans.{HaveSpans}
use Rattle.rounds_blocks.proofs.spans.spans_by.Given as goal

-- the first batches have their spans
abbrev pub invariant-loop-at : goal.invariant-loop-at
invariant-loop-at l = record {
  count : length l.spans.items ≡ l.at;
  each : HaveSpans (length l.homes) l.batches l.spans.items;
}
