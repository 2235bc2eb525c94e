-- The places near one of a line.
use Rattle.std.proofs.Common.{◌≡◌, ℕ, ◌+◌, ◌-◌, ◌<◌, false, [], ◌∷◌, take, min, zero, suc, arith}
use Rattle.std.proofs.lemmas.Bool.Decides.{nat_tests}
use Rattle.std.proofs.lemmas.List.Elements.{All-from_recursion}
use Rattle.net_shapes.specs.declared.large.axis.Axis.{Axis}
use Rattle.net_shapes.specs.Frames.{AreNear}

abbrev line : ℕ → Axis
line n = record { places = n; closed = false }

-- so many numbers from the one before i on, or from i on where it is the first
pub near_in_line : (n i a k : ℕ) → i < n → a ≡ i - 1 → k ≡ (min (i + 1) (n - 1) - a) + 1 → AreNear (record { places = n; closed = false }) i (take k (a ∷ (a + 1) ∷ (a + 2) ∷ []))
near_in_line n i a zero low start count = absurd (omega arith)
near_in_line n i a (suc zero) low start count = record {
  rising = (tt, tt);
  below = All-from_recursion (λ p. p < n) (a ∷ []) (omega arith, tt);
  all = λ p high. grind (arith, nat_tests);
}
near_in_line n i a (suc (suc zero)) low start count = record {
  rising = ((omega arith, tt), (tt, tt));
  below = All-from_recursion (λ p. p < n) (a ∷ (a + 1) ∷ []) (omega arith, (omega arith, tt));
  all = λ p high. grind (arith, nat_tests);
}
near_in_line n i a (suc (suc (suc zero))) low start count = record {
  rising = ((omega arith, (omega arith, tt)), ((omega arith, tt), (tt, tt)));
  below = All-from_recursion (λ p. p < n) (a ∷ (a + 1) ∷ (a + 2) ∷ []) (omega arith, (omega arith, (omega arith, tt)));
  all = λ p high. grind (arith, nat_tests);
}
near_in_line n i a (suc (suc (suc (suc k)))) low start count = absurd (omega arith)
