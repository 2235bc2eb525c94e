use Rattle.std.proofs.Common.{◌≡◌, ◌+◌, ◌≤◌, length}
use Rattle.net_patterns.specs.Texts.{told_from}
use Rattle.net_patterns.proofs.lines.first_told.Given as goal

abbrev pub invariant-loop-text : goal.invariant-loop-text
invariant-loop-text l = record {
  room : l.line + length l.text ≤ 1 + length l.fn.bytes;
  told : told_from l.line l.text ≡ told_from 1 l.fn.bytes;
}

abbrev pub decreases-loop-text : goal.decreases-loop-text
decreases-loop-text l = length l.text
