-- Patterns as they are written. Nothing here is taken from how they are read, so that what is read back is checked.
use Rattle.std.specs.Prelude.{◌≡◌, ◌≤◌, ◌<◌, ℕ, zero, suc, ◌+◌, ◌-◌, ◌/◌, ◌%◌, nat_le, ◌==◌, Bool, ◌||◌, true, false, List, [], ◌∷◌, ◌++◌, length, slice_index, flat_map, replicate, codes, if◌then◌else◌}
use Rattle.std.specs.Fmt.{decimal}
use Rattle.std.specs.List.{AllByRecursion, list_all, list_any}
use Rattle.net_patterns.specs.declared.board.Cell.{Cell}
use Rattle.net_patterns.specs.declared.span.Span.{Span}

-- so many cells of this state side by side, from this column of this row on
abbrev pub cells_beside : ℕ → ℕ → ℕ → ℕ → List Cell
cells_beside state row column zero = []
cells_beside state row column (suc n) = record { column = column; row = row; state = state } ∷ cells_beside state row (column + 1) n

-- the cells of spans, one span after another, each from the left
abbrev pub cells_in : List Span → List Cell
cells_in spans = flat_map (λ s. cells_beside s.state s.row s.column s.count) spans

-- a text that stands in this column and row goes on in a span's row: in this column where it is the same row, and in
-- column 0 where it is a later one
abbrev pub column_at : ℕ → ℕ → Span → ℕ
column_at column row s = if s.row == row then column else 0

-- a span stands ahead of this column and row: in the same row and not before the column, or in a later row; columns and
-- rows are below 65,536, and its state is from 1 to the greatest
pub record IsAhead (most column row : ℕ) (s : Span) : Type 0 where
  pub alive : 1 ≤ s.state
  pub known : s.state ≤ most
  pub down : row ≤ s.row
  pub right : column_at column row s ≤ s.column
  pub low : s.row < 65536
  pub near : s.column + s.count ≤ 65536

-- spans in reading order from this column and row on: each stands ahead of the place after the one before; this is the
-- greatest state
abbrev pub AreAhead : ℕ → ℕ → ℕ → List Span → Type 0
AreAhead most column row [] = Unit {0}
AreAhead most column row (s ∷ spans) = IsAhead most column row s × AreAhead most (s.column + s.count) s.row spans

-- spans in reading order, row by row from the top and in each row from the left, whose cells are at most 65,536; this is
-- the greatest state
abbrev pub AreInOrder : ℕ → List Span → Type 0
AreInOrder most spans = AreAhead most 0 0 spans × (length (cells_in spans) ≤ 65536)

-- how a kind of text writes so many ends of rows, so many dead cells, so many live ones of a state, and the end of the text
pub record Spelling : Type 0 where
  pub row_ends : ℕ → List ℕ
  pub dead : ℕ → List ℕ
  pub alive : ℕ → ℕ → List ℕ
  pub ending : List ℕ

-- spans, written from this column and row on: ends of rows down to the row of a span, dead cells up to its column,
-- and its live cells
abbrev pub written_from : Spelling → ℕ → ℕ → List Span → List ℕ
written_from kind column row [] = kind.ending
written_from kind column row (s ∷ spans) =
    kind.row_ends (s.row - row)
    ++ (kind.dead (s.column - column_at column row s) ++ (kind.alive s.state s.count ++ written_from kind (s.column + s.count) s.row spans))

-- a run: its count in decimal digits, which is left out where it is 1, and its tag; nothing where the count is 0
abbrev pub run_text : List ℕ → ℕ → List ℕ
run_text tag n = if n == 0 then [] else if n == 1 then tag else decimal n ++ tag

-- what may stand between runs: a blank (32), TAB (9), CR (13) or LF (10)
abbrev pub is_gap : ℕ → Bool
is_gap b = b == 32 || b == 9 || b == 13 || b == 10

-- runs: $ ends rows, and this text stands right after it; these are the tags of dead cells and of live ones of a state; !
-- is the end; the gap stands after each run, and more after the end
abbrev pub as_tags : List ℕ → (ℕ → List ℕ) → List ℕ → List ℕ → List ℕ → Spelling
as_tags dead alive ends gap behind = record {
  row_ends = λ n. run_text (codes "$" ++ ends) n ++ gap;
  dead = λ n. run_text dead n ++ gap;
  alive = λ state n. run_text (alive state) n ++ gap;
  ending = codes "!" ++ behind;
}

-- the letters of a state from 1 to 255: A (65) to X for 1 to 24, and a letter from p (112) to y before them for each 24
-- states more
abbrev pub state_tag : ℕ → List ℕ
state_tag state = if nat_le state 24 then (64 + state) ∷ [] else (111 + (state - 1) / 24) ∷ (65 + (state - 1) % 24) ∷ []

-- plain text: LF (10) ends a row, . (46) is a dead cell, O (79) a live one, and LF stands at the end
abbrev pub as_plain : Spelling
as_plain = record { row_ends = λ n. replicate n 10; dead = λ n. replicate n 46; alive = λ state n. replicate n 79; ending = 10 ∷ [] }

-- a line that begins with this byte, without the LF (10) at its end
abbrev pub IsLine : ℕ → List ℕ → Type 0
IsLine first line = (slice_index line 0 ≡ first) × (list_any (λ b. b == 10) line ≡ false)

-- what stands around runs: comment lines, a header line, a text after each end of rows, a gap after each run, and what
-- stands after the end
pub record Frame : Type 0 where
  pub comments : List (List ℕ)
  pub header : List ℕ
  pub ends : List ℕ
  pub gap : List ℕ
  pub behind : List ℕ

-- each comment begins with # (35) and the header with x (120); the text after ends of rows and the gap say nothing, and
-- after the end may stand anything
pub record IsFrame (f : Frame) : Type 0 where
  pub comments : AllByRecursion (IsLine 35) f.comments
  pub header : IsLine 120 f.header
  pub ends : list_all is_gap f.ends ≡ true
  pub gap : list_all is_gap f.gap ≡ true

-- a text of runs: the comments, the header, and the runs
abbrev pub with_frame : Frame → List ℕ → List ℕ
with_frame f runs = flat_map (λ c. c ++ 10 ∷ []) f.comments ++ (f.header ++ 10 ∷ runs)

-- spans of state 1, written as runs of two states: b is a dead cell, o a live one
abbrev pub written_as_runs : Frame → List Span → List ℕ
written_as_runs f spans = with_frame f (written_from (as_tags (codes "b") (λ state. codes "o") f.ends f.gap f.behind) 0 0 spans)

-- spans, written as runs of many states: . is a dead cell, and letters are the live ones
abbrev pub written_as_states : Frame → List Span → List ℕ
written_as_states f spans = with_frame f (written_from (as_tags (codes ".") state_tag f.ends f.gap f.behind) 0 0 spans)

-- spans, written as plain text: a comment that begins with ! (33), and the rows
abbrev pub written_as_plain : List ℕ → List Span → List ℕ
written_as_plain comment spans = comment ++ 10 ∷ written_from as_plain 0 0 spans
