-- Numbers that are too great.
use Rattle.std.proofs.Common.{◌≡◌, inl, inr, ℕ, ◌+◌, ◌*◌, ◌-◌, ◌<◌, true, false, ◌&&◌, List, [], ◌∷◌, nat_lt, nat_le, refl, arith, Option, Some, Err}
use Rattle.std.specs.Option.{unwrap_or}
use Rattle.std.specs.Char.{is_ascii_digit}
use Rattle.std.proofs.lemmas.Bool.{cases_Bool}
use Rattle.std.proofs.lemmas.Bool.Decides.{nat_tests}
use Rattle.net_patterns.specs.declared.fault.PatternFault.TheVariants.{BadCount}
use Rattle.net_patterns.specs.RunSteps.{pieces_from}

no_count : (n : ℕ) → 999999999 < n → (nat_lt 0 n && nat_le n 999999999) ≡ false
no_count n more = grind (arith, nat_tests)

-- after such a number stands no run, whatever follows
pub too_great : (bs : List ℕ) (line n : ℕ) → 999999999 < n → pieces_from line (Some n) 0 bs ≡ Err (BadCount line) ∷ []
too_great [] line n more = refl
too_great (b ∷ bs) line n more =
    elim (cases_Bool (is_ascii_digit b)) [
      | inl digit ↦ rw digit (too_great bs line (10 * n + (b - 48)) (omega arith))
      | inr other ↦ rw (other, no_count n more) refl
    ]

pub digit_too_great : (line : ℕ) (number : Option ℕ) (digit : ℕ) (bs : List ℕ) → is_ascii_digit digit ≡ true → 999999999 < 10 * unwrap_or number 0 + (digit - 48) → pieces_from line number 0 (digit ∷ bs) ≡ Err (BadCount line) ∷ []
digit_too_great line number digit bs is more = rw is (too_great bs line (10 * unwrap_or number 0 + (digit - 48)) more)
