use Rattle.std.proofs.Common.{◌≡◌, ◌+◌, ◌≤◌, length}
use Rattle.import_lines.specs.Texts.{told_from}
use Rattle.import_lines.proofs.lines.Lines.next_told.Given as goal

abbrev pub invariant-loop-line : goal.invariant-loop-line
invariant-loop-line l = record {
  room : l.self.passed + length l.self.bytes.now ≤ l.fn.self.passed + length l.fn.self.bytes.now;
  told : told_from (l.self.passed + 1) l.self.bytes.now ≡ told_from (l.fn.self.passed + 1) l.fn.self.bytes.now;
}

abbrev pub decreases-loop-line : goal.decreases-loop-line
decreases-loop-line l = length l.self.bytes.now
