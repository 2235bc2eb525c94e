-- Whole numbers of a line.
use Rattle.std.specs.Prelude.{ℕ, ◌^◌, ◌&&◌, List, nat_lt, Option, Some, None, if◌then◌else◌}
use Rattle.std.specs.Str.Parse.{digits_value}
use Rattle.import_lines.specs.Weights.{is_whole}

-- the number that a word says: digits alone, one or more, below 2 to the power of 64
abbrev pub number_of : List ℕ → Option ℕ
number_of word = if is_whole word && nat_lt (digits_value 10 word) (2 ^ 64) then Some (digits_value 10 word) else None
