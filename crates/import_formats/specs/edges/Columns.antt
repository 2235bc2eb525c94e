-- The words of a line, or the fields of a row, that are meant: the ends of its edge, and its weight.
use Rattle.std.specs.Prelude.{ℕ, List, slice_get, Option, Some, None, Result, Ok, Err}
use Rattle.import_lines.specs.Parts.{parts_of}
use Rattle.import_lines.specs.declared.words_fault.WordsFault.{WordsFault}
use Rattle.import_formats.specs.declared.edges.columns.Columns.{Columns}
use Rattle.import_formats.specs.edges.Steps.{and_then, fault_as}

-- what is there, or the fault that nothing is
abbrev pub or_missing : {E : Type 0} → E → Option (List ℕ) → Result (List ℕ) E
or_missing missing None = Err missing
or_missing missing (Some word) = Ok word

-- what stands in a column that has to be there; the columns are counted from 0
abbrev pub column_of : {E : Type 0} → E → ℕ → List (List ℕ) → Result (List ℕ) E
column_of missing column words = or_missing missing (slice_get words column)

-- what stands in a column, where there is such a column
abbrev pub column_where : Option ℕ → List (List ℕ) → Option (List ℕ)
column_where None words = None
column_where (Some column) words = slice_get words column

-- the two ends and the weight in these columns
abbrev pub parts_at : {E : Type 0} → E → Columns → List (List ℕ) → Result (List ℕ × List ℕ × Option (List ℕ)) E
parts_at missing columns words =
    and_then (column_of missing columns.first words) (λ first.
    and_then (column_of missing columns.second words) (λ second.
    Ok (first, second, column_where columns.weight words)))

-- the two ends and the weight: what stands in the columns that are named, else all of two or three words
abbrev pub parts_in : {E : Type 0} → (WordsFault → E) → E → Option Columns → List (List ℕ) → Result (List ℕ × List ℕ × Option (List ℕ)) E
parts_in kind missing None words = fault_as kind (parts_of words)
parts_in kind missing (Some columns) words = parts_at missing columns words
