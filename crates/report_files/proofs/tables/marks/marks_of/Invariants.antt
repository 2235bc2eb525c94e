use Rattle.std.proofs.Common.{◌≡◌, length, map}
use Rattle.std.specs.String.{string_bytes}
use Rattle.report_files.specs.tables.Csv.{AreNamed}
use Rattle.report_files.proofs.tables.AskedFields.{Marked}
use Rattle.report_files.proofs.tables.marks.marks_of.Given as goal

abbrev pub invariant-loop-place : goal.invariant-loop-place
invariant-loop-place l = record {
  size : length l.marks.items ≡ length l.fields;
  marked : Marked (map (λ f. f.now) l.fields) (map string_bytes l.asked) l.marks.items l.place;
  named : AreNamed (map (λ f. f.now) l.fields) (map string_bytes l.asked) l.place;
}
