-- The mean and the standard deviation of numbers, in ten-thousandths.
use Rattle.std.specs.Prelude.{ℕ, zero, suc, ◌+◌, ◌-◌, ◌*◌, ◌/◌, ◌%◌, ◌≤◌, ◌<◌, List, ◌++◌, codes, length, map, sum, nat_le, if◌then◌else◌}
use Rattle.std.specs.Fmt.{decimal}
use Rattle.std.specs.Int.{abs_diff}

-- the mean, to the nearest ten-thousandth, a half upwards: 10000 * sum / count + 1/2, rounded down
abbrev pub mean_of : List ℕ → ℕ
mean_of numbers = (20000 * sum numbers + length numbers) / (2 * length numbers)

-- the square of how far a number is off the mean of so many numbers with this sum, all times how many they are, which makes it whole
abbrev pub square_off : ℕ → ℕ → ℕ → ℕ
square_off count total n = abs_diff (count * n) total * abs_diff (count * n) total

-- the sum of these squares
abbrev pub squares_off : List ℕ → ℕ
squares_off numbers = sum (map (square_off (length numbers) (sum numbers)) numbers)

-- that by which it is to be divided to give the variance of the sample: the square of the count, which made the distances whole, times the count less 1
abbrev pub divisor_of : List ℕ → ℕ
divisor_of numbers = length numbers * length numbers * (length numbers - 1)

-- the square root of a number, rounded down
abbrev pub root : ℕ → ℕ
root zero = zero
root (suc n) = if nat_le ((root n + 1) * (root n + 1)) (suc n) then root n + 1 else root n

-- the standard deviation of the sample, the root of its variance, to the nearest ten-thousandth, a half upwards: half of 1 + 20000 * root, both rounded down
abbrev pub deviation_of : List ℕ → ℕ
deviation_of numbers = (root (400000000 * squares_off numbers / divisor_of numbers) + 1) / 2

-- m is the number nearest to 10000 times the mean: m - 1/2 ≤ 10000 * sum / count < m + 1/2
abbrev pub MeansAreNearest : Type 0
MeansAreNearest =
    (numbers : List ℕ) → 1 ≤ length numbers
    → (2 * mean_of numbers * length numbers ≤ 20000 * sum numbers + length numbers) × (20000 * sum numbers + length numbers < 2 * (mean_of numbers + 1) * length numbers)

-- the square of d - 1/2 is not above that of 10000 times the deviation, and the square of d + 1/2 is above it: each times 4, and times what the sum of squares is divided by
abbrev pub DeviationsAreNearest : Type 0
DeviationsAreNearest =
    (numbers : List ℕ) → 2 ≤ length numbers
    → ((2 * deviation_of numbers - 1) * (2 * deviation_of numbers - 1) * divisor_of numbers ≤ 400000000 * squares_off numbers)
    × (400000000 * squares_off numbers < (2 * deviation_of numbers + 1) * (2 * deviation_of numbers + 1) * divisor_of numbers)

-- a number of ten-thousandths as a decimal with four digits after the point
abbrev pub four_digits : ℕ → List ℕ
four_digits n = decimal (n / 10000) ++ (codes "." ++ (decimal (n / 1000 % 10) ++ (decimal (n / 100 % 10) ++ (decimal (n / 10 % 10) ++ decimal (n % 10)))))
