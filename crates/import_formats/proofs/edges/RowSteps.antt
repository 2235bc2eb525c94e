-- Rows that are read line by line, and their edges row by row.
use Rattle.std.proofs.Common.{◌≡◌, ℕ, List, [], ◌∷◌, ◌++◌, map, refl, sym, ap, ◌∙◌, append_assoc, append-nil, Option, Some, Result, Ok, Err}
use Rattle.std.specs.Result.{result_err}
use Rattle.std.proofs.lemmas.List.{map-append}
use Rattle.csv.specs.Records.{fields_of}
use Rattle.import_lines.specs.Named.{NamedEdge}
use Rattle.import_formats.specs.edges.Edges.{and_then}
use Rattle.import_formats.specs.declared.edges.row.Row.{Row}
use Rattle.import_formats.specs.declared.edges.row_fields.Separator.{Separator}
use Rattle.import_formats.specs.declared.edges.row_fault.TableFault.{TableFault}
use Rattle.import_formats.specs.declared.edges.row_reader.TableReading.{TableReading}
use Rattle.import_formats.specs.edges.Tables.{fields_in, edge_of, edges_in}
use Rattle.import_formats.specs.edges.View.{row_of}

-- a line with its fields
abbrev pub row_in : Separator → ℕ × List ℕ → ℕ × List (List ℕ)
row_in separator l = (l.0, fields_in separator l.1)

-- one row more
pub rows_more : (separator : Separator) (rows later : List Row) (row : Row) (l : ℕ × List ℕ) (lines rest : List (ℕ × List ℕ)) (defined : List (ℕ × List (List ℕ)))
    → later ≡ rows ++ row ∷ [] → lines ≡ l ∷ rest → row_of row ≡ row_in separator l → map row_of rows ++ map (row_in separator) lines ≡ defined → map row_of later ++ map (row_in separator) rest ≡ defined
rows_more separator rows later row l lines rest defined is shape said so_far =
    rw (is, map-append row_of rows (row ∷ []), said, append_assoc (map row_of rows) (row_in separator l ∷ []) (map (row_in separator) rest)) (rw shape at so_far)

-- no line is left
pub rows_all : (separator : Separator) (rows : List Row) (lines : List (ℕ × List ℕ)) (defined : List (ℕ × List (List ℕ))) → lines ≡ [] → map row_of rows ++ map (row_in separator) lines ≡ defined → map row_of rows ≡ defined
rows_all separator rows lines defined none is = sym (append-nil (map row_of rows)) ∙ rw none at is

-- the edges so far before those of the rows that are left
abbrev pub with_front : List NamedEdge → Result (List NamedEdge) TableFault → Result (List NamedEdge) TableFault
with_front front read = and_then read (λ es. Ok (front ++ es))

front_more : (front : List NamedEdge) (e : NamedEdge) (read : Result (List NamedEdge) TableFault) → with_front (front ++ e ∷ []) read ≡ with_front front (and_then read (λ es. Ok (e ∷ es)))
front_more front e (Ok es) = ap Ok (append_assoc front (e ∷ []) es)
front_more front e (Err fault) = refl

-- no row is left
pub edges_all : (reading : TableReading) (front : List NamedEdge) (rows : List Row) (defined : Result (List NamedEdge) TableFault) → rows ≡ [] → with_front front (edges_in reading (map row_of rows)) ≡ defined → defined ≡ Ok front
edges_all reading front rows defined none is = sym (rw none at is) ∙ ap Ok (append-nil front)

fault_more : (e : NamedEdge) (read : Result (List NamedEdge) TableFault) → result_err (and_then read (λ es. Ok (e ∷ es))) ≡ result_err read
fault_more e (Ok es) = refl
fault_more e (Err fault) = refl

-- a good row does not change the first fault
pub skip_good : (reading : TableReading) (e : NamedEdge) (row : Row) (rows rest : List Row) → rows ≡ row ∷ rest → Ok e ≡ edge_of reading (row.line, fields_of row.fields) → result_err (edges_in reading (map row_of rows)) ≡ result_err (edges_in reading (map row_of rest))
skip_good reading e row rows rest shape said = rw (shape, ← said) (fault_more e (edges_in reading (map row_of rest)))

-- a bad row at the front is the first
pub stop_bad : (reading : TableReading) (fault : TableFault) (row : Row) (rows rest : List Row) → rows ≡ row ∷ rest → Err fault ≡ edge_of reading (row.line, fields_of row.fields) → result_err (edges_in reading (map row_of rows)) ≡ Some fault
stop_bad reading fault row rows rest shape said = rw (shape, ← said) refl
