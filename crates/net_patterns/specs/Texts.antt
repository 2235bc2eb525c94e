-- Texts of patterns, of two kinds.
use Rattle.std.specs.Prelude.{◌≡◌, ℕ, ◌+◌, ◌==◌, Bool, true, false, ◌&&◌, ◌||◌, not, List, [], ◌∷◌, slice_index, Option, Some, None, Result, Err, if◌then◌else◌}
use Rattle.std.specs.List.{filter, list_any, before_first, after_first}
pub use Rattle.import_lines.specs.Texts.{is_line_feed}
use Rattle.net_patterns.specs.declared.board.Cell.{Cell}
use Rattle.net_patterns.specs.declared.board.Mark.{Mark}
use Rattle.net_patterns.specs.declared.board.Mark.TheVariants.{Dead, Alive, RowEnd}
use Rattle.net_patterns.specs.declared.fault.PatternFault.{PatternFault}
use Rattle.net_patterns.specs.declared.fault.PatternFault.TheVariants.{NoPattern}
use Rattle.net_patterns.specs.Cells.{Run, pattern_of}
use Rattle.net_patterns.specs.Rle.{AreRuns, is_blank, run_of}

-- where the lines after this one begin: the number of each, and the text from its first byte to the end
abbrev pub lines_behind : ℕ → List ℕ → List (ℕ × List ℕ)
lines_behind line [] = []
lines_behind line (b ∷ bs) = if is_line_feed b then (line + 1, bs) ∷ lines_behind (line + 1) bs else lines_behind line bs

-- a line begins with #, or has blank characters alone: it says nothing
abbrev pub says_nothing : List ℕ → Bool
says_nothing line = slice_index line 0 == 35 || not (list_any (λ b. not (is_blank b)) line)

-- the lines that say something, of those that begin with this one
abbrev pub told_from : ℕ → List ℕ → List (ℕ × List ℕ)
told_from line text = filter (λ l. not (says_nothing (before_first is_line_feed l.1))) ((line, text) ∷ lines_behind line text)

-- the mark of a character of plain text: . dead, O or * alive, of state 1
abbrev pub plain_mark : ℕ → Option Mark
plain_mark b = if b == 46 then Some Dead else if b == 79 || b == 42 then Some (Alive 1) else None

-- a comment begins here
abbrev pub is_comment : List ℕ → Bool
is_comment line = slice_index line 0 == 33

-- a line ends here
abbrev pub ends_line : List ℕ → Bool
ends_line [] = true
ends_line (b ∷ bs) = is_line_feed b

-- the end of a line: it ends a row, but for that of a comment
abbrev pub row_before : Bool → ℕ → List (Result Run PatternFault) → List (Result Run PatternFault)
row_before comment line pieces = if comment then pieces else run_of line 1 (Some RowEnd) pieces

-- the pieces of plain text, from this line on, which is a comment or a row; CR at a line's end says nothing
abbrev pub plain_pieces : ℕ → Bool → List ℕ → List (Result Run PatternFault)
plain_pieces line comment [] = []
plain_pieces line comment (b ∷ bs) =
    if is_line_feed b then row_before comment line (plain_pieces (line + 1) (is_comment bs) bs)
    else if comment || (b == 13 && ends_line bs) then plain_pieces line comment bs
    else run_of line 1 (plain_mark b) (plain_pieces line comment bs)

-- the pieces of a text whose first line that says something is this: where it begins with x (120), those of the runs
-- after it; else those of plain text
abbrev pub AreOfKind : Bool → List ℕ → ℕ × List ℕ → List (Result Run PatternFault) → Type 0
AreOfKind true text l pieces = AreRuns (l.0 + 1) pieces (after_first is_line_feed l.1)
AreOfKind false text l pieces = pieces ≡ plain_pieces 1 (is_comment text) text

abbrev pub ArePiecesBehind : List ℕ → List (ℕ × List ℕ) → List (Result Run PatternFault) → Type 0
ArePiecesBehind text [] pieces = pieces ≡ Err NoPattern ∷ []
ArePiecesBehind text (l ∷ ls) pieces = AreOfKind (slice_index l.1 0 == 120) text l pieces

-- the pieces of a text: its runs, and its fault where it has one
abbrev pub ArePieces : List ℕ → List (Result Run PatternFault) → Type 0
ArePieces text pieces = ArePiecesBehind text (told_from 1 text) pieces

-- what a text says, a pattern or the first fault: what its pieces say
abbrev pub IsPattern : List ℕ → Result (List Cell) PatternFault → Type 0
IsPattern text answer = (pieces : List (Result Run PatternFault)) × ArePieces text pieces × (pattern_of pieces ≡ answer)
