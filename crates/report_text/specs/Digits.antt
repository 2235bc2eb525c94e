-- Decimal digits.
use Rattle.std.specs.Prelude.{ℕ, ◌==◌, List, [], ◌∷◌, Bool, false, IsTrue}
use Rattle.std.specs.List.{AllByRecursion}
use Rattle.std.specs.Char.{is_ascii_digit}

-- each byte is a decimal digit
abbrev pub IsDigits : List ℕ → Type 0
IsDigits bytes = AllByRecursion (λ b. IsTrue (is_ascii_digit b)) bytes

-- a zero (48) stands in front of something
abbrev pub begins_zero : List ℕ → Bool
begins_zero [] = false
begins_zero (b ∷ []) = false
begins_zero (b ∷ more ∷ bytes) = b == 48
