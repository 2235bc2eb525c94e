-- What functions return, as the definitions speak of it.
use Rattle.std.specs.Prelude.{ℕ, List}
use Rattle.csv.specs.Records.{fields_of}
use Rattle.import_formats.specs.declared.edges.row.Row.{Row}

-- a row: the number of its line, and its fields
abbrev pub row_of : Row → ℕ × List (List ℕ)
row_of row = (row.line, fields_of row.fields)
