-- How the lexer finds the end of what it reads. Private: clauses of the lexer's own functions speak of these; what a text
-- means is told by Lexemes.
use Rattle.std.specs.Prelude.{ℕ, ◌+◌, ◌-◌, ◌==◌, Bool, ◌&&◌, not, List, [], ◌∷◌, nat_lt, nat_le, length, if◌then◌else◌}
use Rattle.std.specs.List.{count_by}
use Rattle.std.specs.Char.{is_ascii_digit}
use Rattle.import_formats.specs.dot.Bytes.{is_point}

-- digits with a point among them or without, one digit at least
abbrev pub is_numeral : List ℕ → Bool
is_numeral bytes =
    nat_lt 0 (count_by is_ascii_digit bytes)
    && nat_le (count_by is_point bytes) 1
    && count_by is_ascii_digit bytes == length bytes - count_by is_point bytes

-- how many bytes stand before the first quote; a backslash takes the byte after it along. All, where there is none
abbrev pub quote_place : Bool → List ℕ → ℕ
quote_place escaped [] = 0
quote_place escaped (b ∷ bs) = if b == 34 && not escaped then 0 else 1 + quote_place (b == 92 && not escaped) bs

-- how many bytes stand before the > that closes the innermost string, where so many < stand open in it. All, where
-- there is none
abbrev pub bracket_place : ℕ → List ℕ → ℕ
bracket_place depth [] = 0
bracket_place depth (b ∷ bs) =
    if b == 62 then (if depth == 0 then 0 else 1 + bracket_place (depth - 1) bs)
    else if b == 60 then 1 + bracket_place (depth + 1) bs
    else 1 + bracket_place depth bs

-- how many bytes stand before the first / after a *. All, where there is none
abbrev pub slash_place : Bool → List ℕ → ℕ
slash_place starred [] = 0
slash_place starred (b ∷ bs) = if b == 47 && starred then 0 else 1 + slash_place (b == 42) bs
