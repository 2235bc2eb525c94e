-- The values of the nodes of a grid, and the patterns that they are written as.
use Rattle.std.specs.Prelude.{ℕ, ◌+◌, ◌-◌, ◌/◌, ◌%◌, ◌==◌, Bool, ◌&&◌, List, [], ◌∷◌, ◌++◌, length, map, nat_lt, nat_le, codes, Option, Some, None, Result, Ok, Err, if◌then◌else◌}
use Rattle.std.specs.Fmt.{decimal}
use Rattle.std.specs.List.{enumerate_from, filter, find, list_all}
use Rattle.net_patterns.specs.declared.board.Cell.{Cell}
use Rattle.net_patterns.specs.declared.grid_text.ValueFault.{ValueFault}
use Rattle.net_patterns.specs.declared.grid_text.ValueFault.TheVariants.{TooGreat, TooMany}
use Rattle.net_patterns.specs.declared.span.Span.{Span}
use Rattle.net_patterns.specs.declared.spelling.Kind.{Kind}
use Rattle.net_patterns.specs.declared.spelling.Kind.TheVariants.{TwoStates, ManyStates, Plain}
use Rattle.net_patterns.specs.declared.spelling.PatternFormat.{PatternFormat}
use Rattle.net_patterns.specs.declared.spelling.PatternFormat.TheVariants.{Runs, Rows}
use Rattle.net_patterns.specs.Written.{Spelling, as_plain, as_tags, state_tag, written_from}

-- the live cell that a node's value says: the value is its state
abbrev pub cell_at : ℕ → ℕ × ℕ → Cell
cell_at width s = record { column = s.0 % width; row = s.0 / width; state = s.1 }

-- the live cells of the values of nodes from this one on, on a grid of this width: one for each value but 0
abbrev pub grid_cells : ℕ → ℕ → List ℕ → List Cell
grid_cells width node values = map (cell_at width) (filter (λ s. nat_lt 0 s.1) (enumerate_from node values))

-- a span that a live cell at a node begins
abbrev pub span_at : ℕ → ℕ → ℕ → Span
span_at width node value = record { state = value; row = node / width; column = node % width; count = 1 }

-- a live cell at a node goes on with a span: it stands right after it in the same row, and has the same state
abbrev pub goes_on : ℕ → ℕ → ℕ → Span → Bool
goes_on width node value s = node / width == s.row && (node % width == s.column + s.count && value == s.state)

-- a span with one cell more
abbrev pub longer : Span → Span
longer s = record { state = s.state; row = s.row; column = s.column; count = s.count + 1 }

-- the spans of the values of nodes from this one on, after a span that may go on: live cells of one state side by side
-- in a row are one span
abbrev pub spans_from : ℕ → ℕ → Span → List ℕ → List Span
spans_from width node s [] = s ∷ []
spans_from width node s (value ∷ values) =
    if value == 0 then spans_from width (node + 1) s values
    else if goes_on width node value s then spans_from width (node + 1) (longer s) values
    else s ∷ spans_from width (node + 1) (span_at width node value) values

-- a span of no cell, at the top left
abbrev pub no_span : Span
no_span = record { state = 1; row = 0; column = 0; count = 0 }

-- how each kind of text writes ends of rows and cells: after ends of rows of runs, and after their end, stands LF (10)
abbrev pub spelling_of : Kind → Spelling
spelling_of TwoStates = as_tags (codes "b") (λ state. codes "o") (10 ∷ []) [] (10 ∷ [])
spelling_of ManyStates = as_tags (codes ".") state_tag (10 ∷ []) [] (10 ∷ [])
spelling_of Plain = as_plain

-- the line before runs
abbrev pub header_of : ℕ → ℕ → List ℕ
header_of width height = codes "x = " ++ (decimal width ++ (codes ", y = " ++ decimal height))

-- the line before rows
abbrev pub title_of : ℕ → ℕ → List ℕ
title_of width height = codes "!" ++ (decimal width ++ (codes " columns, " ++ (decimal height ++ codes " rows")))

-- the lines before cells of so many columns and rows
abbrev pub opening_of : Kind → ℕ → ℕ → List ℕ
opening_of TwoStates width height = header_of width height ++ 10 ∷ []
opening_of ManyStates width height = header_of width height ++ 10 ∷ []
opening_of Plain width height = title_of width height ++ 10 ∷ []

-- the kind of text of values: runs are of two states where no value is above 1
abbrev pub kind_of : PatternFormat → List ℕ → Kind
kind_of Runs values = if list_all (λ v. nat_le v 1) values then TwoStates else ManyStates
kind_of Rows values = Plain

-- how many rows values fill, where this is the width: the last may be filled in part
abbrev pub rows_filled : ℕ → ℕ → ℕ
rows_filled width count = (count + width - 1) / width

-- the text of values in rows of this width
abbrev pub grid_text : PatternFormat → ℕ → List ℕ → List ℕ
grid_text format width values =
    opening_of (kind_of format values) width (rows_filled width (length values))
    ++ written_from (spelling_of (kind_of format values)) 0 0 (spans_from width 0 no_span values)

-- the greatest state that a format writes
abbrev pub most_of : PatternFormat → ℕ
most_of Runs = 255
most_of Rows = 1

-- the first node from this one on whose value is greater, and the value
abbrev pub first_above : ℕ → ℕ → List ℕ → Option (ℕ × ℕ)
first_above most node values = find (λ s. nat_lt most s.1) (enumerate_from node values)

-- the fault of a node and its value
abbrev pub too_great : ℕ × ℕ → ValueFault
too_great s = TooGreat s.0 s.1

-- the text, unless a node has too great a value
abbrev pub text_unless : Option (ℕ × ℕ) → List ℕ → Result (List ℕ) ValueFault
text_unless (Some s) text = Err (too_great s)
text_unless None text = Ok text

-- the text of values in rows of this width; no text where there are more than 65,536 values, and else the first node
-- whose value is greater than the greatest state
abbrev pub written_grid : PatternFormat → ℕ → List ℕ → Result (List ℕ) ValueFault
written_grid format width values =
    if nat_lt 65536 (length values) then Err TooMany
    else text_unless (first_above (most_of format) 0 values) (grid_text format width values)
