-- Where aggregates lie over values in a range.
use Rattle.std.specs.Prelude.{min, max, sum, fold}
use Rattle.std.specs.List.{All, AllByRecursion}
use Rattle.std.proofs.Common.{ℕ, ◌*◌, ◌<◌, ◌≤◌, ◌⊎◌, inl, inr, List, [], ◌∷◌, length, arith}
use Rattle.std.proofs.lemmas.Bool.{cases_lt}
use Rattle.std.proofs.lemmas.Nat.{mul-le}
use Rattle.std.proofs.lemmas.List.Sums.{sum_by-le}
use Rattle.std.proofs.lemmas.List.Elements.{recursion_from_All}
use Rattle.rule_check.specs.Table.{M}
use Rattle.rule_ranges.specs.declared.range.Range.{Range}
use Rattle.rule_ranges.specs.Ranges.{IsWithin}

-- the least of values is not below what none of them is below
least_from : (b s : ℕ) (values : List ℕ) → b ≤ s → AllByRecursion (λ v. b ≤ v) values → b ≤ fold min s values
least_from b s [] low each = low
least_from b s (v ∷ values) low each =
    let head : b ≤ v = each.0 in least_from b (min s v) values (omega arith) each.1

-- the greatest is not above what none of them is above
pub most_to : (b s : ℕ) (values : List ℕ) → s ≤ b → AllByRecursion (λ v. v ≤ b) values → fold max s values ≤ b
most_to b s [] few each = few
most_to b s (v ∷ values) few each =
    let head : v ≤ b = each.0 in most_to b (max s v) values (omega arith) each.1

-- values in a range are not below its least one, and not above its most where it ends
module _ (range : Range) where
  each_from : (values : List ℕ) → All (IsWithin range) values → AllByRecursion (λ v. range.least ≤ v) values
  each_from values each = recursion_from_All (λ v. range.least ≤ v) values (λ k d inside. (each k d inside).from)

  each_to : (values : List ℕ) → range.most < M → All (IsWithin range) values → All (λ v. v ≤ range.most) values
  each_to values ends each = λ k d inside. (each k d inside).to ends

  pub least_within : (values : List ℕ) → range.least ≤ M → All (IsWithin range) values → range.least ≤ fold min M values
  least_within values word each = least_from range.least M values word (each_from values each)

  pub most_within : (values : List ℕ) → range.most < M → All (IsWithin range) values → fold max 0 values ≤ range.most
  most_within values ends each = most_to range.most 0 values (omega arith) (recursion_from_All (λ v. v ≤ range.most) values (each_to values ends each))

  -- a total is not above the most as often as there may be values
  total_few : (degree : ℕ) (values : List ℕ) → length values ≤ degree → All (IsWithin range) values → range.most * degree < M → sum values ≤ range.most * degree
  total_few degree values few each small = below (cases_lt range.most M) where
    below : (range.most < M) ⊎ (M ≤ range.most) → sum values ≤ range.most * degree
    below (inl ends) =
        omega (arith, sum_by-le (λ v. v) range.most values (each_to values ends each), mul-le (length values) range.most degree range.most few (omega arith))
    below (inr endless) = none values degree few small where
      none : (values : List ℕ) (degree : ℕ) → length values ≤ degree → range.most * degree < M → sum values ≤ range.most * degree
      none [] degree few small = omega arith
      none (v ∷ values) degree few small = absurd (omega (arith, few, endless, small, mul-le M 1 range.most degree endless (omega arith)))

  pub total_within : (degree : ℕ) (values : List ℕ) → length values ≤ degree → All (IsWithin range) values → min (sum values) M ≤ min (range.most * degree) M
  total_within degree values few each = below (cases_lt (range.most * degree) M) where
    below : (range.most * degree < M) ⊎ (M ≤ range.most * degree) → min (sum values) M ≤ min (range.most * degree) M
    below (inl small) = omega (arith, small, total_few degree values few each small)
    below (inr large) = omega (arith, large)
