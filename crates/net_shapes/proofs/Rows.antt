-- Rows of numbers as lists of nodes.
use Rattle.std.proofs.Common.{◌≡◌, ℕ, ◌+◌, false, refl, arith, zero, suc}
use Rattle.std.specs.List.{range_with_len}
use Rattle.std.proofs.lemmas.Bool.Decides.{nat_tests}
use Rattle.net_shapes.proofs.Ahead.{has, has_twice, between, between_none, between_more}

-- which numbers stand in a row
pub has_row : (w a k : ℕ) → has w (range_with_len a k) ≡ between a k w
has_row w a zero = rw (between_none a w) refl
has_row w a (suc k) = rw (has_row w (a + 1) k, between_more a k w) refl

pub once_row : (a k : ℕ) → has_twice (range_with_len a k) ≡ false
once_row a zero = refl
once_row a (suc k) = rw (has_row a (a + 1) k, once_row (a + 1) k) (grind (arith, nat_tests))
