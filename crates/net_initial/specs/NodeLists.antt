-- Lists of nodes: texts with a name or a number on each line.
use Rattle.std.specs.Prelude.{ℕ, ◌+◌, ◌-◌, ◌==◌, Bool, true, List, [], ◌∷◌, length, take, drop, if◌then◌else◌}
use Rattle.std.specs.List.{prefix_len, suffix_len, slice_split}
use Rattle.std.specs.Char.{is_ascii_whitespace}
use Rattle.import_lines.specs.Texts.{is_line_feed}

-- without the white space at the start, and without that at the end
abbrev pub begun : List ℕ → List ℕ
begun bytes = drop (prefix_len is_ascii_whitespace bytes) bytes

abbrev pub ended : List ℕ → List ℕ
ended bytes = take (length bytes - suffix_len is_ascii_whitespace bytes) bytes

abbrev pub trimmed : List ℕ → List ℕ
trimmed line = ended (begun line)

-- nothing, or a comment
abbrev pub names_nothing : List ℕ → Bool
names_nothing [] = true
names_nothing (b ∷ bytes) = b == 35

-- the line of this number before others, where it names a node
abbrev pub with_line : ℕ → List ℕ → List (ℕ × List ℕ) → List (ℕ × List ℕ)
with_line number line others = if names_nothing (trimmed line) then others else (number, trimmed line) ∷ others

-- those of the lines that name a node, each with its number; the first has this number
abbrev pub listed_from : ℕ → List (List ℕ) → List (ℕ × List ℕ)
listed_from number [] = []
listed_from number (line ∷ lines) = with_line number line (listed_from (number + 1) lines)

-- the same of the lines of a text
abbrev pub listed_in : ℕ → List ℕ → List (ℕ × List ℕ)
listed_in number text = listed_from number (slice_split is_line_feed text)
