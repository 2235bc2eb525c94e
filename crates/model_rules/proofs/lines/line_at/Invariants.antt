use Rattle.std.proofs.Common.{◌≡◌, ◌≤◌, ◌+◌, suc, drop}
use Rattle.model_rules.specs.Lines.{line_feeds}
use Rattle.model_rules.proofs.lines.line_at.Given as goal

abbrev pub invariant-loop-byte : goal.invariant-loop-byte
invariant-loop-byte l = (l.line + line_feeds (drop l.byte-index l.byte-items) ≡ suc (line_feeds l.byte-items)) × (l.line ≤ l.byte-index + 1)
