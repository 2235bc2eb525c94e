-- A first line that looks like headings.
use Rattle.std.specs.Prelude.{ℕ, Bool, true, false, ◌&&◌, not, List, [], ◌∷◌, Option, Some, None, Result, Ok, Err, if◌then◌else◌}
use Rattle.import_lines.specs.Texts.{words_of}
use Rattle.import_lines.specs.Parts.{shown}
use Rattle.import_lines.specs.Weights.{is_whole}
use Rattle.import_lines.specs.declared.words_fault.WordsFault.{WordsFault}

-- two words stand in front, neither of which is a whole number
abbrev pub are_names : List (List ℕ) → Bool
are_names [] = false
are_names (a ∷ []) = false
are_names (a ∷ b ∷ words) = not (is_whole a) && not (is_whole b)

-- two words stand in front, both of which are whole numbers
abbrev pub are_numbers : List (List ℕ) → Bool
are_numbers [] = false
are_numbers (a ∷ []) = false
are_numbers (a ∷ b ∷ words) = is_whole a && is_whole b

-- the number of the first line, where it looks like headings: its first two words are no numbers, and those of the line after it are
abbrev pub heading_in : List (ℕ × List (List ℕ)) → Option ℕ
heading_in [] = None
heading_in (l ∷ []) = None
heading_in (l ∷ m ∷ lines) = if are_names l.1 && are_numbers m.1 then Some l.0 else None

-- the words of a line that may be shown
abbrev pub words_shown : Result (List ℕ) WordsFault → List (List ℕ)
words_shown (Ok text) = words_of text
words_shown (Err fault) = []

abbrev pub said_words : List ℕ → List (List ℕ)
said_words line = words_shown (shown line)

-- a line with its number and its words
abbrev pub words_in : ℕ × List ℕ → ℕ × List (List ℕ)
words_in l = (l.0, said_words l.1)
