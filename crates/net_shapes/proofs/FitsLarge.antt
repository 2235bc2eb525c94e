-- What is known of a shape of any size that nothing refuses.
use Rattle.std.proofs.Common.{◌≡◌, ℕ, ◌≤◌, Bool, true, false, not, nat_le, None, Some, refl, arith, if◌then◌else◌}
use Rattle.std.proofs.lemmas.Bool.Decides.{nat_tests}
use Rattle.link_net.specs.Limits.{most_rows}
use Rattle.net_shapes.specs.declared.shape.Shape.{Shape}
use Rattle.net_shapes.specs.declared.large.fault.LargeShapeFault.TheVariants.{TooFewNodes, TooManyNodes}
use Rattle.net_shapes.specs.Shapes.{node_count}
use Rattle.net_shapes.specs.LargeSizes.{has_enough, refusal_of}

pub record FitsLarge (s : Shape) : Type 0 where
  pub enough : has_enough s ≡ true
  pub within : nat_le (node_count s) most_rows ≡ true
  pub small : node_count s ≤ most_rows

passed : (a b : Bool) → (if not a then Some TooFewNodes else if not b then Some TooManyNodes else None) ≡ None → (a ≡ true) × (b ≡ true)
passed true true h = (refl, refl)
passed true false h = cc
passed false b h = cc

pub fits_large : (s : Shape) → refusal_of s ≡ None → FitsLarge s
fits_large s h =
    let p = passed (has_enough s) (nat_le (node_count s) most_rows) h in
    let within : nat_le (node_count s) most_rows ≡ true = p.1 in
    record { enough = p.0; within = within; small = at (node_count s) within } where
      at : (n : ℕ) → nat_le n most_rows ≡ true → n ≤ most_rows
      at n low = grind (arith, nat_tests)
