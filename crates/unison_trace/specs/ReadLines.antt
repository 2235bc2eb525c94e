-- The ends of a schedule's lines.
use Rattle.std.specs.Prelude.{ℕ, ◌^◌, ◌<◌, codes, List, [], ◌∷◌, ◌++◌}
use Rattle.std.specs.Fmt.{decimal}

-- a number at the end of a line
abbrev pub number_line : ℕ → List ℕ
number_line n = decimal n ++ 10 ∷ []

-- two numbers at the end of a line, one space between
abbrev pub pair_line : ℕ × ℕ → List ℕ
pair_line p = decimal p.0 ++ (codes " " ++ number_line p.1)

-- both numbers are those of their type
abbrev pub AreSmall : ℕ × ℕ → Type 0
AreSmall p = (p.0 < 2 ^ 32) × (p.1 < 2 ^ 32)
