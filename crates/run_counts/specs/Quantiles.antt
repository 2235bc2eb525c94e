-- Quantiles of numbers, in percents.
use Rattle.std.specs.Prelude.{ℕ, ◌*◌, Bool, List, [], ◌∷◌, length, min, nat_le}
use Rattle.std.specs.List.{count_by, filter, fold}

-- how many of the numbers are at most this one
abbrev pub up_to : List ℕ → ℕ → ℕ
up_to numbers v = count_by (λ n. nat_le n v) numbers

-- whether at least so many percent of the numbers are at most this one
abbrev pub reaches : ℕ → List ℕ → ℕ → Bool
reaches percent numbers v = nat_le (percent * length numbers) (100 * up_to numbers v)

-- the least of the numbers; 0 of none
abbrev pub least_of : List ℕ → ℕ
least_of [] = 0
least_of (n ∷ ns) = fold min n ns

-- the quantile: the least of the numbers that at least so many percent of them do not exceed
abbrev pub quantile : ℕ → List ℕ → ℕ
quantile percent numbers = least_of (filter (reaches percent numbers) numbers)
