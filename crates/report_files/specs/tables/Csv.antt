-- Tables as CSV, with names in place of numbers.
use Rattle.std.specs.Prelude.{◌≡◌, ◌≢◌, ◌≤◌, ◌<◌, ◌↔◌, ℕ, ◌+◌, ◌==◌, Bool, true, false, List, [], ◌∷◌, ◌++◌, length, map, codes, Option, Some, None, slice_get, slice_index_or, if◌then◌else◌}
use Rattle.std.specs.Fmt.{decimal}
use Rattle.std.specs.List.{range_with_len}
use Rattle.csv.specs.Writing.{default_writer, row_text}
use Rattle.report_files.specs.declared.tables.row.Row.{Row}
use Rattle.report_files.specs.tables.Tables.{TableView}
use Rattle.report_files.specs.declared.tables.csv_fault.CsvFault.{CsvFault}
use Rattle.report_files.specs.declared.tables.csv_fault.CsvFault.TheVariants.{NameCount, UnknownField, NoNode, Memory}

-- ---- the fields that hold nodes

-- the first field of this name stands at this place
pub record IsFirstPlace (fields : List (List ℕ)) (name : List ℕ) (place : ℕ) : Type 0 where
  pub found : slice_get fields place ≡ Some name
  pub before : (k : ℕ) → k < place → slice_get fields k ≢ Some name

-- some field has this name
abbrev pub HasField : List (List ℕ) → List ℕ → Type 0
HasField fields name = (place : ℕ) × (slice_get fields place ≡ Some name)

-- so many of the asked names are names of fields
abbrev pub AreNamed : List (List ℕ) → List (List ℕ) → ℕ → Type 0
AreNamed fields asked count = (k : ℕ) (name : List ℕ) → k < count → slice_get asked k ≡ Some name → HasField fields name

-- the field at this place is the first one of a name that is among the first asked ones, so many
pub record IsAsked (fields asked : List (List ℕ)) (count place : ℕ) : Type 0 where
  pub k : ℕ
  pub name : List ℕ
  pub within : k < count
  pub asks : slice_get asked k ≡ Some name
  pub first : IsFirstPlace fields name place

-- the marks say of each field whether it is asked to hold nodes, and each asked name is a field's
pub record AreMarks (fields asked : List (List ℕ)) (marks : List Bool) : Type 0 where
  pub size : length marks ≡ length fields
  pub each : (place : ℕ) → (slice_index_or marks place false ≡ true) ↔ IsAsked fields asked (length asked) place
  pub named : AreNamed fields asked (length asked)

-- ---- what is printed

-- the value that says that there is no node
abbrev pub no_node : ℕ
no_node = 4294967295

-- what stands in the cell of a value: the number, or where the field holds nodes the node's name, and nothing where there is no node
abbrev pub cell_of : List (List ℕ) → Bool → ℕ → List ℕ
cell_of names false value = decimal value
cell_of names true value = if value == no_node then [] else slice_index_or names value []

-- the cells of the first values, so many
abbrev pub value_cells : List (List ℕ) → List Bool → List ℕ → ℕ → List (List ℕ)
value_cells names marks words count = map (λ k. cell_of names (slice_index_or marks k false) (slice_index_or words k 0)) (range_with_len 0 count)

-- the cell of the moves, in a replay report alone
abbrev pub move_cells : Option ℕ → List (List ℕ)
move_cells None = []
move_cells (Some moves) = decimal moves ∷ []

-- the cells of a node: its name, its moves, and its values
abbrev pub node_cells : List (List ℕ) → List Bool → ℕ → ℕ → Row → List (List ℕ)
node_cells names marks fields node row = (slice_index_or names node [] ∷ move_cells row.moves) ++ value_cells names marks row.state.words fields

-- the records of rows, from a node on
abbrev pub node_records : List (List ℕ) → List Bool → ℕ → ℕ → List Row → List (List (List ℕ))
node_records names marks fields node [] = []
node_records names marks fields node (row ∷ rows) = node_cells names marks fields node row ∷ node_records names marks fields (node + 1) rows

-- the heading of the moves, where there is no round
abbrev pub move_headings : Option ℕ → List (List ℕ)
move_headings None = codes "moves" ∷ []
move_headings (Some round) = []

-- the headings
abbrev pub headings : TableView → List (List ℕ)
headings t = (codes "node" ∷ move_headings t.round) ++ t.fields

-- the text of records: commas between their cells, cells in quotes where they need them, and LF at each one's end
abbrev pub records_text : List (List (List ℕ)) → List ℕ
records_text [] = []
records_text (cells ∷ records) = row_text default_writer cells ++ records_text records

-- the text of a table's first rows, so many, under their headings
abbrev pub csv_text : List (List ℕ) → List Bool → TableView → List Row → List ℕ
csv_text names marks t rows = records_text (headings t ∷ node_records names marks (length t.fields) 0 rows)

-- ---- which values are nodes

-- the value is a node's number, or says that there is none
abbrev pub IsNode : List (List ℕ) → ℕ → Type 0
IsNode names value = value ≢ no_node → value < length names

-- the first values, so many, are nodes where their fields are marked
abbrev pub AreNodes : List (List ℕ) → List Bool → List ℕ → ℕ → Type 0
AreNodes names marks words count = (k : ℕ) → k < count → slice_index_or marks k false ≡ true → IsNode names (slice_index_or words k 0)

-- the marked values of the first rows, so many, are nodes
abbrev pub AreRowsOfNodes : List (List ℕ) → List Bool → ℕ → List Row → ℕ → Type 0
AreRowsOfNodes names marks fields rows count = (node : ℕ) (row : Row) → node < count → slice_get rows node ≡ Some row → AreNodes names marks row.state.words fields

-- the bytes are the CSV of the table, where the asked fields hold nodes
pub record IsCsv (t : TableView) (names asked : List (List ℕ)) (bytes : List ℕ) : Type 0 where
  pub marks : List Bool
  pub are_marks : AreMarks t.fields asked marks
  pub nodes : AreRowsOfNodes names marks (length t.fields) t.rows (length t.rows)
  pub text : bytes ≡ csv_text names marks t t.rows

-- ---- why a table is not printed

-- the value of a marked field is no node's number, and does not say that there is no node
pub record IsNoNode (names : List (List ℕ)) (marks : List Bool) (words : List ℕ) (field value : ℕ) : Type 0 where
  pub marked : slice_index_or marks field false ≡ true
  pub is : value ≡ slice_index_or words field 0
  pub some : value ≢ no_node
  pub far : length names ≤ value

-- it is the first such value of the row
pub record IsFirstNoNode (names : List (List ℕ)) (marks : List Bool) (words : List ℕ) (fields field value : ℕ) : Type 0 where
  pub within : field < fields
  pub before : AreNodes names marks words field
  pub no_node : IsNoNode names marks words field value

-- the row of this node is the first with such a value
pub record IsFirstBadRow (names : List (List ℕ)) (marks : List Bool) (fields : ℕ) (rows : List Row) (node field value : ℕ) : Type 0 where
  pub row : Row
  pub here : slice_get rows node ≡ Some row
  pub before : AreRowsOfNodes names marks fields rows node
  pub first : IsFirstNoNode names marks row.state.words fields field value

-- the asked name at this place is the first that no field has
pub record IsUnknown (fields asked : List (List ℕ)) (place : ℕ) : Type 0 where
  pub name : List ℕ
  pub here : slice_get asked place ≡ Some name
  pub none : HasField fields name → ⊥
  pub before : AreNamed fields asked place

-- why asked names are refused
abbrev pub IsMarksFault : List (List ℕ) → List (List ℕ) → CsvFault → Type 0
IsMarksFault fields asked (UnknownField place) = IsUnknown fields asked place
IsMarksFault fields asked Memory = Unit {0}
IsMarksFault fields asked fault = ⊥

-- why a value is refused
abbrev pub IsValueFault : List (List ℕ) → List Bool → List ℕ → ℕ → ℕ → CsvFault → Type 0
IsValueFault names marks words node field (NoNode u place value) = (u ≡ node) × (place ≡ field) × IsNoNode names marks words field value
IsValueFault names marks words node field Memory = Unit {0}
IsValueFault names marks words node field fault = ⊥

-- why a row is refused
abbrev pub IsRowFault : List (List ℕ) → List Bool → List ℕ → ℕ → ℕ → CsvFault → Type 0
IsRowFault names marks words fields node (NoNode u field value) = (u ≡ node) × IsFirstNoNode names marks words fields field value
IsRowFault names marks words fields node Memory = Unit {0}
IsRowFault names marks words fields node fault = ⊥

-- why rows are refused
abbrev pub IsRowsFault : List (List ℕ) → List Bool → ℕ → List Row → CsvFault → Type 0
IsRowsFault names marks fields rows (NoNode node field value) = IsFirstBadRow names marks fields rows node field value
IsRowsFault names marks fields rows Memory = Unit {0}
IsRowsFault names marks fields rows fault = ⊥

-- why a table is not printed: there are more or fewer names than rows; else an asked name is no field's; else a value of an asked field is no node
abbrev pub IsCsvFault : TableView → List (List ℕ) → List (List ℕ) → CsvFault → Type 0
IsCsvFault t names asked (NameCount count nodes) = (count ≡ length names) × (nodes ≡ length t.rows) × (count ≢ nodes)
IsCsvFault t names asked (UnknownField place) = IsUnknown t.fields asked place
IsCsvFault t names asked (NoNode node field value) = (marks : List Bool) × AreMarks t.fields asked marks × IsFirstBadRow names marks (length t.fields) t.rows node field value
IsCsvFault t names asked Memory = Unit {0}
