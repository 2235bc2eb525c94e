-- The network that a text says.
use Rattle.std.specs.Prelude.{◌≡◌, ◌≢◌, ℕ, ◌+◌, ◌-◌, Bool, List, [], ◌∷◌, nat_lt, length, take, drop, map, MatchResult, Option, Some, None, Result, Ok, Err, if◌then◌else◌}
use Rattle.std.specs.List.{before_first, after_first}
use Rattle.import_lines.specs.Texts.{is_line_feed, told_from}
use Rattle.import_links.specs.declared.placed.PlacedLink.{PlacedLink}
use Rattle.import_formats.specs.declared.matrix_market.entries.Entries.{Entries}
use Rattle.import_formats.specs.declared.matrix_market.entry.EntryForm.{EntryForm}
use Rattle.import_formats.specs.declared.matrix_market.header.Header.{Header}
use Rattle.import_formats.specs.declared.matrix_market.matrix.EntryReading.{EntryReading}
use Rattle.import_formats.specs.declared.matrix_market.fault.MatrixFault.{MatrixFault}
use Rattle.import_formats.specs.declared.matrix_market.fault.MatrixFault.TheVariants.{NoSize, TooManyEntries, TooFewEntries, Memory}
use Rattle.import_formats.specs.matrix_market.Headers.{header_in}
use Rattle.import_formats.specs.matrix_market.Sizes.{size_in}
use Rattle.import_formats.specs.matrix_market.Entries.{entry_in}
use Rattle.import_formats.specs.matrix_market.Steps.{and_then, at_line, all_of}

-- the link of a line with its number
abbrev pub link_of : EntryForm → ℕ × List ℕ → Result PlacedLink MatrixFault
link_of form l = at_line l.0 (entry_in form l.0 l.1)

-- the links, where there are as many lines as were said, and no more of them
abbrev pub counted : ℕ → ℕ → List (ℕ × List ℕ) → List PlacedLink → Result (List PlacedLink) MatrixFault
counted said found [] links = if nat_lt found said then Err (TooFewEntries said found) else Ok links
counted said found (l ∷ beyond) links = Err (TooManyEntries l.0 said)

-- the links of the lines after those of so many entries: of as many of them as make up what was said
abbrev pub links_in : EntryForm → ℕ → ℕ → List (ℕ × List ℕ) → Result (List PlacedLink) MatrixFault
links_in form said found lines = and_then (all_of (map (link_of form) (take (said - found) lines))) (counted said (found + length lines) (drop (said - found) lines))

-- the lines of entries that are not read yet, and their links
abbrev pub lines_left : Entries → List (ℕ × List ℕ)
lines_left e = told_from (e.lines.passed + 1) e.lines.bytes.now

abbrev pub links_left : Entries → Result (List PlacedLink) MatrixFault
links_left e = links_in e.form e.said e.found (lines_left e)

-- one link more before the others; none where there is no next one
abbrev pub with_next : Option PlacedLink → Result (List PlacedLink) MatrixFault → Result (List PlacedLink) MatrixFault
with_next None later = Ok []
with_next (Some link) later = and_then later (λ links. Ok (link ∷ links))

-- what a matrix says: how many nodes there are, whether the edges have a direction, the links of its entries
pub record MatrixLinks : Type 0 where
  pub nodes : ℕ
  pub is_directed : Bool
  pub links : List PlacedLink

-- what entries of this form say that have these links
abbrev pub matrix_links : EntryForm → List PlacedLink → MatrixLinks
matrix_links form links = record { nodes = form.nodes; is_directed = form.is_directed; links = links }

-- what entries are like, below this header, between so many nodes
abbrev pub form_of : EntryReading → Header → ℕ → EntryForm
form_of reading header nodes = record { nodes = nodes; is_directed = header.is_directed; has_values = header.has_values; factor = reading.factor }

-- what the lines after the header say: the first how many nodes and entries there are, the others are entries
abbrev pub matrix_in : EntryReading → Header → List (ℕ × List ℕ) → Result MatrixLinks MatrixFault
matrix_in reading header [] = Err NoSize
matrix_in reading header (l ∷ lines) =
    and_then (at_line l.0 (size_in reading.most_nodes l.1)) (λ size.
    and_then (links_in (form_of reading header size.nodes) size.entries 0 lines) (λ links.
    Ok (matrix_links (form_of reading header size.nodes) links)))

-- what a text says: the first line is the header, then come the lines after it that say something
abbrev pub entries_of : EntryReading → List ℕ → Result MatrixLinks MatrixFault
entries_of reading text =
    and_then (at_line 1 (header_in reading.direction (before_first is_line_feed text))) (λ header.
    matrix_in reading header (told_from 2 (after_first is_line_feed text)))

-- what was returned, seen by view, is the defined result, or stands for running out of memory
abbrev pub IsAnswer : {A B : Type 0} → (B → A) → Result A MatrixFault → Result B MatrixFault → Type 0
IsAnswer view defined r = MatchResult r (λ x. defined ≡ Ok (view x)) (λ fault. fault ≢ Memory → defined ≡ Err fault)
