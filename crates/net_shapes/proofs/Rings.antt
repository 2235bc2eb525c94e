-- Rings.
use Rattle.std.proofs.Common.{◌≡◌, ℕ, ◌<◌, ◌≤◌, ◌==◌, true, false, [], ◌∷◌, refl, arith}
use Rattle.std.proofs.lemmas.Bool.Decides.{nat_tests}
use Rattle.net_shapes.specs.declared.shape.Shape.{Shape}
use Rattle.net_shapes.specs.Shapes.{next, leads}
use Rattle.net_shapes.specs.Sizes.{has_size}
use Rattle.net_shapes.specs.Ahead.{prev, ahead}
use Rattle.net_shapes.proofs.Ahead.{IsAhead}
use Rattle.net_shapes.proofs.Counts.{each_ahead}
use Rattle.net_shapes.proofs.Few.{HasFew}
use Rattle.net_shapes.proofs.Sound.{IsSound, sizes}

module _ (n : ℕ) (some : 3 ≤ n) where
  pub next_below : (i : ℕ) → i < n → next n i < n
  next_below i low = grind (arith, nat_tests)

  pub prev_below : (i : ℕ) → i < n → prev n i < n
  prev_below i low = grind (arith, nat_tests)

  -- a node is neither the next of itself, nor of its next
  pub next_other : (i k : ℕ) → i < n → k < n → (next n i == k) ≡ true → (i == k) ≡ false
  next_other i k low below h = grind (arith, nat_tests)

  pub next_one_way : (i k : ℕ) → i < n → k < n → (next n i == k) ≡ true → (next n k == i) ≡ false
  next_one_way i k low below h = grind (arith, nat_tests)

  -- the node before i is that whose next is i
  pub before_is : (i k : ℕ) → i < n → k < n → (prev n i == k) ≡ (next n k == i)
  before_is i k low below = grind (arith, nat_tests)

  ring_ahead : IsAhead n (ahead (Shape.Ring n)) (leads (Shape.Ring n))
  ring_ahead = record {
    member = λ u w low. let below = next_below u low in grind (arith, nat_tests);
    once = λ u low. refl;
    one_way = λ u w a b led. next_one_way u w a b led;
  }

  ring_few : HasFew n (leads (Shape.Ring n))
  ring_few = record {
    near = λ u. next n u ∷ prev n u ∷ [];
    few = λ u low. omega arith;
    holds = λ u w a b joined. let same = before_is u w a b in grind (arith, nat_tests);
  }

pub ring_sound : (n : ℕ) → has_size (Shape.Ring n) ≡ true → IsSound (Shape.Ring n)
ring_sound n f =
    let (low, high) = sizes 3 n f in
    record {
      some = omega arith;
      small = high;
      is_ahead = ring_ahead n low;
      has_few = λ bound. ring_few n low;
      count = omega (arith, each_ahead (ahead (Shape.Ring n)) 1 0 n (λ u from. refl));
    }
