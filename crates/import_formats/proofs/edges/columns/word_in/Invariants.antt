use Rattle.std.proofs.Common.{◌≡◌, ℕ}
use Rattle.std.specs.Prelude.{slice_get}
use Rattle.std.specs.Str.{IsUtf8}
use Rattle.import_lines.specs.Texts.{words_of}
use Rattle.import_formats.proofs.edges.columns.word_in.Given as goal

abbrev pub invariant-loop-left : goal.invariant-loop-left
invariant-loop-left l = record {
  utf8 : IsUtf8 l.rest;
  word : slice_get (words_of l.rest) l.left ≡ slice_get (words_of l.text) l.column;
}

abbrev pub decreases-loop-left : goal.decreases-loop-left
decreases-loop-left l = l.left
