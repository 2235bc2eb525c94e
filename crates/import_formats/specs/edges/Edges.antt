-- The edges that a text says.
use Rattle.std.specs.Prelude.{◌≡◌, ◌≢◌, ℕ, Bool, true, ◌&&◌, ◌||◌, not, List, [], ◌∷◌, drop, map, MatchResult, Option, Some, None, is_some, Result, Ok, Err, if◌then◌else◌}
use Rattle.std.specs.List.{slice_split}
use Rattle.std.specs.Option.{unwrap_or}
use Rattle.import_lines.specs.Texts.{words_of, edge_lines}
use Rattle.import_lines.specs.Parts.{shown}
use Rattle.import_lines.specs.declared.weight_fault.WeightFault.{WeightFault}
use Rattle.import_lines.specs.declared.weight.Weight.{Weight}
use Rattle.import_lines.specs.Weights.{weight_of}
use Rattle.import_lines.specs.Named.{NamedEdge}
use Rattle.import_formats.specs.declared.edges.fault.LineFault.{LineFault}
use Rattle.import_formats.specs.declared.edges.fault.LineFault.TheVariants.{Heading, Words as BadWords, EmptyPlace, NoColumn, Weight as BadWeight}
use Rattle.import_formats.specs.declared.edges.fault.EdgeFault.{EdgeFault}
use Rattle.import_formats.specs.declared.edges.fault.EdgeFault.TheVariants.{BadLine, Memory}
use Rattle.import_formats.specs.declared.edges.reader.Reading.{Reading}
use Rattle.import_formats.specs.declared.edges.columns.Columns.{Columns}
use Rattle.import_formats.specs.edges.Columns.{parts_in}
use Rattle.import_formats.specs.edges.Places.{is_comma, has_gap}
use Rattle.import_formats.specs.edges.Headings.{words_in, heading_in}
pub use Rattle.import_formats.specs.edges.Steps.{and_then, fault_as}

-- the weight of an edge; where no word says it it is 1, times the factor where there is one
abbrev pub weight_in : Option ℕ → Option (List ℕ) → Result Weight WeightFault
weight_in factor None = Ok (record { value = unwrap_or factor 1; exact = true })
weight_in factor (Some word) = weight_of factor word

-- a line that has no empty place between commas before a word, or any line where such places are taken
abbrev pub unbroken : Bool → List ℕ → Result (List ℕ) LineFault
unbroken gaps text = if not gaps && has_gap (slice_split is_comma text) then Err EmptyPlace else Ok text

-- the edge that a line says, or the line's first fault
abbrev pub edge_in : Reading → ℕ → List ℕ → Result NamedEdge LineFault
edge_in reading number line =
    and_then (fault_as BadWords (shown line)) (λ text.
    and_then (unbroken reading.gaps text) (λ whole.
    and_then (parts_in BadWords NoColumn reading.columns (words_of whole)) (λ parts.
    and_then (fault_as BadWeight (weight_in reading.factor parts.2)) (λ weight.
    Ok (record { first = parts.0; second = parts.1; weight = weight.value; exact = weight.exact; line = number })))))

-- the edge that a line with its number says, or its first fault beside that number
abbrev pub edge_of : Reading → ℕ × List ℕ → Result NamedEdge EdgeFault
edge_of reading l = fault_as (λ fault. BadLine l.0 fault) (edge_in reading l.0 l.1)

-- the edges that the lines say, or the first line's fault that says none
abbrev pub edges_in : Reading → List (ℕ × List ℕ) → Result (List NamedEdge) EdgeFault
edges_in reading [] = Ok []
edges_in reading (l ∷ ls) = and_then (edge_of reading l) (λ e. and_then (edges_in reading ls) (λ es. Ok (e ∷ es)))

-- the first line, where it looks like headings, and nothing says that it is one or which columns are meant
abbrev pub unsaid_heading : Bool → Option Columns → List (ℕ × List (List ℕ)) → Option ℕ
unsaid_heading header columns lines = if header || is_some columns then None else heading_in lines

-- the fault that a line looks like headings, where there is one, else the edges
abbrev pub unless_heading : {A E : Type 0} → (ℕ → E) → Option ℕ → Result A E → Result A E
unless_heading kind None read = read
unless_heading kind (Some line) read = Err (kind line)

-- the edges of a text; or that its first line looks like headings, or its first bad line
abbrev pub edges_of : Reading → List ℕ → Result (List NamedEdge) EdgeFault
edges_of reading text =
    let lines = edge_lines reading.header text in
    unless_heading (λ line. BadLine line Heading) (unsaid_heading reading.header reading.columns (map words_in lines)) (edges_in reading lines)

-- what was returned, seen by view, is the defined result, or stands for running out of memory
abbrev pub IsAnswer : {A B : Type 0} → (B → A) → Result A EdgeFault → Result B EdgeFault → Type 0
IsAnswer view defined r = MatchResult r (λ x. defined ≡ Ok (view x)) (λ fault. fault ≢ Memory → defined ≡ Err fault)
