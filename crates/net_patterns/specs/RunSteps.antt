-- Internal: runs, read byte by byte. No public clause cites it.
use Rattle.std.specs.Prelude.{ℕ, ◌+◌, ◌*◌, ◌-◌, ◌==◌, Bool, ◌&&◌, ◌||◌, List, [], ◌∷◌, nat_lt, nat_le, slice_index, Option, Some, None, Result, Err, is_some, if◌then◌else◌}
use Rattle.std.specs.Option.{unwrap_or}
use Rattle.std.specs.Char.{is_ascii_digit}
use Rattle.std.specs.List.{after_first}
use Rattle.net_patterns.specs.declared.board.Cell.{Cell}
use Rattle.net_patterns.specs.declared.board.Mark.{Mark}
use Rattle.net_patterns.specs.declared.board.Mark.TheVariants.{Dead, Alive, RowEnd}
use Rattle.net_patterns.specs.declared.fault.PatternFault.{PatternFault}
use Rattle.net_patterns.specs.declared.fault.PatternFault.TheVariants.{BadCell, BadCount, NoEnd, NoPattern}
use Rattle.net_patterns.specs.Cells.{Run, pattern_of}
use Rattle.net_patterns.specs.Rle.{is_blank, run_of}
use Rattle.net_patterns.specs.Texts.{is_comment, is_line_feed, plain_pieces, told_from}

-- the greatest state
abbrev pub most_state : ℕ
most_state = 255

-- a capital letter from A to X: 1 for A, 24 for X
abbrev pub letter_of : ℕ → Option ℕ
letter_of b = if nat_le 65 b && nat_le b 88 then Some (b - 64) else None

-- a letter from p to y: how many states it adds to those of the capital letter after it, 24 for p and 240 for y
abbrev pub higher_of : ℕ → Option ℕ
higher_of b = if nat_le 112 b && nat_le b 121 then Some (24 * (b - 111)) else None

-- a live cell of this state, where that is one
abbrev pub alive_of : ℕ → Option Mark
alive_of state = if nat_le state most_state then Some (Alive state) else None

-- the mark of a tag that is no capital letter, where nothing stands before it: b or . dead, o alive, $ the end of a row
abbrev pub plain_tag : ℕ → Option Mark
plain_tag b =
    if b == 98 || b == 46 then Some Dead
    else if b == 111 then Some (Alive 1)
    else if b == 36 then Some RowEnd
    else None

-- the mark that a tag stands for, after a letter that adds so many states, 0 where none does
abbrev pub mark_with : ℕ → ℕ → Option ℕ → Option Mark
mark_with higher b (Some letter) = alive_of (higher + letter)
mark_with higher b None = if higher == 0 then plain_tag b else None

abbrev pub mark_of : ℕ → ℕ → Option Mark
mark_of higher b = mark_with higher b (letter_of b)

-- a number that is followed by one more digit, or that the digit begins
abbrev pub with_digit : Option ℕ → ℕ → ℕ
with_digit number digit = 10 * unwrap_or number 0 + (digit - 48)

-- the greatest count
abbrev pub most_count : ℕ
most_count = 999999999

-- how many copies a number stands for: 1 where there is none; 0 and what is greater than the greatest count are no counts
abbrev pub count_of : Option ℕ → Option ℕ
count_of None = Some 1
count_of (Some n) = if nat_lt 0 n && nat_le n most_count then Some n else None

-- the line after a blank
abbrev pub line_past : ℕ → ℕ → ℕ
line_past line b = if b == 10 then line + 1 else line

-- a blank or ! stands between runs
abbrev pub is_between : ℕ → Bool
is_between b = is_blank b || b == 33

-- the pieces of a byte that is no count's digit, after a number of this count, where there is one, and a letter that adds
-- so many states, 0 where none does: between runs a blank says nothing, and ! is the end; after a letter from p to y come
-- the first pieces, and after a tag the others
abbrev pub pieces_at : ℕ → Option ℕ → Option ℕ → ℕ → ℕ → List (Result Run PatternFault) → List (Result Run PatternFault) → List (Result Run PatternFault)
pieces_at line number None higher b longer pieces = Err (BadCount line) ∷ []
pieces_at line number (Some count) higher b longer pieces =
    if higher == 0 && is_between b then (if is_some number then Err (BadCount line) ∷ [] else if is_blank b then pieces else [])
    else if higher == 0 && is_some (higher_of b) then longer
    else run_of line count (mark_of higher b) pieces

-- the fault of a text that ends after a number that has no tag yet and a letter that adds so many states
abbrev pub end_fault : ℕ → Option ℕ → ℕ → PatternFault
end_fault line number higher =
    if nat_lt 0 higher then BadCell line
    else if is_some number then BadCount line
    else NoEnd

-- the pieces of a text after a number that has no tag yet, where there is one, and a letter that adds so many states, 0
-- where none does; its first byte stands in this line
abbrev pub pieces_from : ℕ → Option ℕ → ℕ → List ℕ → List (Result Run PatternFault)
pieces_from line number higher [] = Err (end_fault line number higher) ∷ []
pieces_from line number higher (b ∷ bs) =
    if higher == 0 && is_ascii_digit b then pieces_from line (Some (with_digit number b)) 0 bs
    else pieces_at line number (count_of number) higher b (pieces_from line number (unwrap_or (higher_of b) 0) bs) (pieces_from (line_past line b) None 0 bs)

-- the pieces of a text, where these are the lines that say something: where the first begins with x, those of the runs
-- after it; else those of plain text
abbrev pub pieces_behind : List ℕ → List (ℕ × List ℕ) → List (Result Run PatternFault)
pieces_behind text [] = Err NoPattern ∷ []
pieces_behind text (l ∷ ls) =
    if slice_index l.1 0 == 120 then pieces_from (l.0 + 1) None 0 (after_first is_line_feed l.1)
    else plain_pieces 1 (is_comment text) text

-- the pattern that a text says, or the first fault
abbrev pub pattern_in : List ℕ → Result (List Cell) PatternFault
pattern_in text = pattern_of (pieces_behind text (told_from 1 text))
