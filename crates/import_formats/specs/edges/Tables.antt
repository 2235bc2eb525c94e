-- The edges that a table says: lines of fields, which tabs or commas part.
use Rattle.std.specs.Prelude.{◌≡◌, ◌≢◌, ℕ, Bool, true, false, List, [], ◌∷◌, ◌++◌, map, get_or, MatchResult, Option, Some, None, Result, Ok, Err, if◌then◌else◌}
use Rattle.std.specs.List.{list_any}
use Rattle.std.specs.Option.{unwrap_or}
use Rattle.std.specs.Str.Lines.{strip_carriage_return}
use Rattle.csv.specs.Machine.{Read, next_record}
use Rattle.csv.specs.Reading.{default_config, strip_bom}
use Rattle.csv.specs.declared.parser.Config.{Config}
use Rattle.csv.specs.declared.parser.State.TheVariants as state
use Rattle.csv.specs.declared.parser.Terminator.TheVariants as ends
use Rattle.import_lines.specs.Texts.{edge_lines, is_line_feed}
use Rattle.import_lines.specs.Parts.{shown}
use Rattle.import_lines.specs.Weights.{weight_of}
use Rattle.import_lines.specs.Named.{NamedEdge}
use Rattle.import_lines.specs.declared.weight.Weight.{Weight}
use Rattle.import_formats.specs.edges.Steps.{and_then, fault_as}
use Rattle.import_formats.specs.edges.Columns.{parts_in}
use Rattle.import_formats.specs.edges.Edges.{unsaid_heading, unless_heading}
use Rattle.import_formats.specs.declared.edges.row_fields.Separator.{Separator}
use Rattle.import_formats.specs.declared.edges.row_fields.Separator.TheVariants.{Tab, Comma}
use Rattle.import_formats.specs.declared.edges.row_fault.RowFault.{RowFault}
use Rattle.import_formats.specs.declared.edges.row_fault.RowFault.TheVariants.{Heading, UnclosedQuote, Words as BadWords, NoColumn, Weight as BadWeight}
use Rattle.import_formats.specs.declared.edges.row_fault.TableFault.{TableFault}
use Rattle.import_formats.specs.declared.edges.row_fault.TableFault.TheVariants.{BadRow, Memory}
use Rattle.import_formats.specs.declared.edges.row_reader.TableReading.{TableReading}

-- ---- the fields of a line

-- how a line is read: with CSV's defaults, but that LF alone ends it, and with tabs that tabs part it and quotes mean nothing
abbrev pub config_of : Separator → Config
config_of Tab = record default_config { terminator = ends.Any 10; delimiter = 9; quoting = false }
config_of Comma = record default_config { terminator = ends.Any 10 }

-- the fields of a record that was read, none where there was none
abbrev pub fields_read : Option Read → List (List ℕ)
fields_read None = []
fields_read (Some read) = read.0

-- the fields of a line: those of the first record of the line and a LF, without a byte order mark before and a CR after
abbrev pub fields_in : Separator → List ℕ → List (List ℕ)
fields_in separator line = fields_read (next_record (config_of separator) state.StartRecord [] [] (strip_bom (strip_carriage_return line ++ 10 ∷ [])))

-- the rows of a table: the lines that say something, but for a header, each with its number and its fields
abbrev pub rows_of : Separator → Bool → List ℕ → List (ℕ × List (List ℕ))
rows_of separator header text = map (λ l. (l.0, fields_in separator l.1)) (edge_lines header text)

-- ---- the edge of a row

-- a LF stands in the field at a place
abbrev pub has_line_feed_at : List (List ℕ) → ℕ → Bool
has_line_feed_at fields place = list_any is_line_feed (get_or fields place [])

-- a quote is not closed: its field runs over the end of the line
abbrev pub is_unclosed : List (List ℕ) → Bool
is_unclosed fields = list_any (list_any is_line_feed) fields

-- the fields, where each quote is closed
abbrev pub closed : List (List ℕ) → Result (List (List ℕ)) RowFault
closed fields = if is_unclosed fields then Err UnclosedQuote else Ok fields

-- the weight where none is said: 1, times the factor where there is one
abbrev pub unsaid : Option ℕ → Weight
unsaid factor = record { value = unwrap_or factor 1; exact = true }

-- the weight that a field says
abbrev pub word_weight : Option ℕ → List ℕ → Result Weight RowFault
word_weight factor field = and_then (fault_as BadWords (shown field)) (λ word. fault_as BadWeight (weight_of factor word))

-- the weight of an edge, which an empty field does not say
abbrev pub weight_in : Option ℕ → Option (List ℕ) → Result Weight RowFault
weight_in factor None = Ok (unsaid factor)
weight_in factor (Some []) = Ok (unsaid factor)
weight_in factor (Some (b ∷ bytes)) = word_weight factor (b ∷ bytes)

-- the edge that the fields of a line say, or the line's first fault
abbrev pub edge_in : TableReading → ℕ → List (List ℕ) → Result NamedEdge RowFault
edge_in reading line fields =
    and_then (closed fields) (λ whole.
    and_then (parts_in BadWords NoColumn reading.columns whole) (λ parts.
    and_then (fault_as BadWords (shown parts.0)) (λ first.
    and_then (fault_as BadWords (shown parts.1)) (λ second.
    and_then (weight_in reading.factor parts.2) (λ weight.
    Ok (record { first = first; second = second; weight = weight.value; exact = weight.exact; line = line }))))))

-- the edge that a row says, or its first fault beside the number of its line
abbrev pub edge_of : TableReading → ℕ × List (List ℕ) → Result NamedEdge TableFault
edge_of reading row = fault_as (λ fault. BadRow row.0 fault) (edge_in reading row.0 row.1)

-- ---- the edges of a table

-- the edges that rows say, or the fault of the first row that says none
abbrev pub edges_in : TableReading → List (ℕ × List (List ℕ)) → Result (List NamedEdge) TableFault
edges_in reading [] = Ok []
edges_in reading (row ∷ rows) = and_then (edge_of reading row) (λ e. and_then (edges_in reading rows) (λ es. Ok (e ∷ es)))

-- the edges of all rows; or that the first row looks like headings, or the first bad row
abbrev pub row_edges : TableReading → List (ℕ × List (List ℕ)) → Result (List NamedEdge) TableFault
row_edges reading rows = unless_heading (λ line. BadRow line Heading) (unsaid_heading reading.header reading.columns rows) (edges_in reading rows)

-- the edges of a table
abbrev pub table_edges : TableReading → List ℕ → Result (List NamedEdge) TableFault
table_edges reading text = row_edges reading (rows_of reading.separator reading.header text)

-- what was returned, seen by view, is the defined result, or stands for running out of memory
abbrev pub IsAnswer : {A B : Type 0} → (B → A) → Result A TableFault → Result B TableFault → Type 0
IsAnswer view defined r = MatchResult r (λ x. defined ≡ Ok (view x)) (λ fault. fault ≢ Memory → defined ≡ Err fault)
