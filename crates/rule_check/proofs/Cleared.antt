-- The words of a state whose undeclared fields are cleared.
use Rattle.std.proofs.Common.{◌≡◌, ℕ, ◌-◌, ◌≤◌, List, length, replicate, take, arith, length-append}
use Rattle.std.proofs.lemmas.List.{length-take, length-replicate}
use Rattle.rule_check.specs.Value.{cleared}

-- there are eight, if not more
pub cleared_long : (n : ℕ) (words : List ℕ) {m : ℕ} → n ≡ m → m ≤ length words → 8 ≤ length (cleared n words)
cleared_long n words same whole =
    omega (arith, length-append {A = ℕ} (take n words) (replicate (8 - n) 0), length-take {A = ℕ} n words, length-replicate {A = ℕ} (8 - n) 0)
