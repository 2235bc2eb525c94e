-- The line that tells what becomes of the rounds.
use Rattle.std.specs.Prelude.{ℕ, List, [], ◌∷◌, ◌++◌, codes, Option, Some, None}
use Rattle.std.specs.Fmt.{decimal}
use Rattle.run_settle.specs.declared.settling.Settling.{Settling}
use Rattle.run_settle.specs.declared.settling.Settling.TheVariants.{Settles, Repeats, Open}

-- `settles` and the round, `repeats` with the round and the period, or `open` and the limit: numbers in decimal, a blank before each, LF (10) last
abbrev pub line_of : Settling → List ℕ
line_of (Settles round) = codes "settles " ++ (decimal round ++ 10 ∷ [])
line_of (Repeats round period) = codes "repeats " ++ (decimal round ++ (codes " " ++ (decimal period ++ 10 ∷ [])))
line_of (Open limit) = codes "open " ++ (decimal limit ++ 10 ∷ [])

-- the round from which on nothing changes, or all states come again
abbrev pub round_of : Settling → Option ℕ
round_of (Settles round) = Some round
round_of (Repeats round period) = Some round
round_of (Open limit) = None
