use Rattle.std.proofs.Common.{◌≡◌, drop}
use Rattle.std.specs.List.{list_any}
use Rattle.import_lines.specs.Texts.{is_line_feed}
use Rattle.import_formats.proofs.edges.row_parts.has_line_feed.Given as goal

abbrev pub invariant-loop-byte : goal.invariant-loop-byte
invariant-loop-byte l = list_any is_line_feed (drop l.byte-index l.bytes) ≡ list_any is_line_feed l.bytes
