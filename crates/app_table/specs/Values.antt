-- Which numbers the table lets an argument have.
use Rattle.std.specs.Prelude.{◌≡◌, ◌≤◌, ◌⊎◌, ℕ}
use Rattle.app_table.specs.declared.table.Value.{Value}
use Rattle.app_table.specs.declared.table.Value.TheVariants.{Text, File, Number, Choice}

-- the number is one that such a value may be: it lies within the limits, both included
abbrev pub IsAllowed : Value → ℕ → Type 0
IsAllowed Text n = ⊥
IsAllowed File n = ⊥
IsAllowed (Number least most) n = (least ≤ n) × (n ≤ most)
IsAllowed (Choice choices) n = ⊥

-- the number is one that such a value may be, or this other one
abbrev pub IsAllowedOr : Value → ℕ → ℕ → Type 0
IsAllowedOr value other n = (n ≡ other) ⊎ IsAllowed value n
