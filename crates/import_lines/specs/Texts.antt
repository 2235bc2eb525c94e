-- Lines and words of a text.
use Rattle.std.specs.Prelude.{ℕ, ◌==◌, Bool, true, false, ◌||◌, not, List, [], ◌∷◌, drop, slice_index, if◌then◌else◌}
use Rattle.std.specs.List.{filter, slice_split, enumerate_from}

-- LF
abbrev pub is_line_feed : ℕ → Bool
is_line_feed b = b == 10

-- TAB, CR, a blank, a comma
abbrev pub is_separator : ℕ → Bool
is_separator b = b == 9 || b == 13 || b == 32 || b == 44

-- there are bytes
abbrev pub is_filled : List ℕ → Bool
is_filled [] = false
is_filled (b ∷ bytes) = true

-- the words of a line: what stands between its separators, where that is not empty
abbrev pub words_of : List ℕ → List (List ℕ)
words_of line = filter is_filled (slice_split is_separator line)

-- a line of these words says nothing: there are none, or the first begins with # or %
abbrev pub say_nothing : List (List ℕ) → Bool
say_nothing [] = true
say_nothing (word ∷ words) = slice_index word 0 == 35 || slice_index word 0 == 37

-- the lines that say something, each with its number; the first line of the bytes has this number
abbrev pub told_from : ℕ → List ℕ → List (ℕ × List ℕ)
told_from number bytes = filter (λ l. not (say_nothing (words_of l.1))) (enumerate_from number (slice_split is_line_feed bytes))

-- the lines of a text that say edges: those that say something, but for the first of them where it is a header
abbrev pub edge_lines : Bool → List ℕ → List (ℕ × List ℕ)
edge_lines header text = drop (if header then 1 else 0) (told_from 1 text)
