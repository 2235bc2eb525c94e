use Rattle.std.proofs.Common.{◌≡◌, ◌+◌, ◌≤◌, drop}
use Rattle.std.specs.List.{count_by}
use Rattle.import_lines.specs.Texts.{is_line_feed}
use Rattle.large_pack.proofs.shared.line_feeds.Given as goal

abbrev pub invariant-loop-byte : goal.invariant-loop-byte
invariant-loop-byte l = record {
  counted : l.count + count_by is_line_feed (drop l.byte-index l.bytes) ≡ count_by is_line_feed l.bytes;
  few : l.count ≤ l.byte-index;
}
