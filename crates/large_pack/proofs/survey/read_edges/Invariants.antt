use Rattle.std.proofs.Common.{◌≡◌, ◌+◌, ◌<◌, ◌^◌, length}
use Rattle.import_lines.specs.Texts.{told_from}
use Rattle.large_pack.specs.Lines.{edges_in}
use Rattle.large_pack.specs.Surveys.{survey_in}
use Rattle.large_pack.proofs.Surveying.{survey_after}
use Rattle.large_pack.proofs.Readings.{ReadTo}
use Rattle.large_pack.proofs.survey.read_edges.Given as goal

abbrev pub invariant-loop-number : goal.invariant-loop-number
invariant-loop-number l = record {
  room : l.lines.passed + length l.lines.bytes.now < 2 ^ 64;
  told : survey_after l.options l.survey (edges_in l.options (told_from (l.lines.passed + 1) l.lines.bytes.now)) ≡ survey_in l.options (edges_in l.options (told_from (l.fn.from.passed + 1) l.fn.from.bytes.now));
  read : ReadTo l.options (edges_in l.options (told_from (l.fn.from.passed + 1) l.fn.from.bytes.now)) (edges_in l.options (told_from (l.lines.passed + 1) l.lines.bytes.now)) l.keyed;
}

abbrev pub decreases-loop-number : goal.decreases-loop-number
decreases-loop-number l = length (told_from (l.lines.passed + 1) l.lines.bytes.now)
