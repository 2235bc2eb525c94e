-- The places between the commas of a line.
use Rattle.std.specs.Prelude.{ℕ, ◌==◌, Bool, true, false, not, List, [], ◌∷◌, if◌then◌else◌}
use Rattle.std.specs.List.{list_any, slice_split}
use Rattle.import_lines.specs.Texts.{words_of}

abbrev pub is_comma : ℕ → Bool
is_comma b = b == 44

-- there are words
abbrev pub are_some : List (List ℕ) → Bool
are_some [] = false
are_some (word ∷ words) = true

-- a word stands in a place
abbrev pub has_word : List ℕ → Bool
has_word place = are_some (words_of place)

-- a place without a word stands before one that has a word
abbrev pub has_gap : List (List ℕ) → Bool
has_gap [] = false
has_gap (place ∷ places) = if has_word place then has_gap places else list_any has_word places
