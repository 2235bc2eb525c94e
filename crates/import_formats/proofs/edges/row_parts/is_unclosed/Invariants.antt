use Rattle.std.proofs.Common.{◌≡◌, drop}
use Rattle.csv.specs.Records.{fields_of}
use Rattle.import_formats.specs.edges.Tables.{is_unclosed}
use Rattle.import_formats.proofs.edges.row_parts.is_unclosed.Given as goal

abbrev pub invariant-loop-place : goal.invariant-loop-place
invariant-loop-place l = is_unclosed (drop l.place (fields_of l.fields)) ≡ is_unclosed (fields_of l.fields)
