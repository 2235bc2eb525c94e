-- Nodes from one to another.
use Rattle.std.proofs.Common.{◌≡◌, ℕ, ◌<◌, ◌≤◌, Bool, true, false, ◌&&◌, nat_le, nat_lt, refl, inl, inr, arith}
use Rattle.std.proofs.lemmas.Bool.{cases_Bool}
use Rattle.std.proofs.lemmas.Bool.Decides.{nat_tests}

none : (a b : Bool) → ((a && false) && b) ≡ (a && false)
none true b = refl
none false b = refl

both : (a : Bool) → ((a && true) && true) ≡ (a && true)
both true = refl
both false = refl

-- a node up to the last is below the place past all of them
pub all_met : (first last node u : ℕ) → (u ≤ last → u < node) → ((nat_le first u && nat_le u last) && nat_lt u node) ≡ (nat_le first u && nat_le u last)
all_met first last node u f =
    elim (cases_Bool (nat_le u last)) [
      | inl low ↦
          let within : u ≤ last = grind (arith, nat_tests) in
          let less = f within in
          let met : nat_lt u node ≡ true = grind (arith, nat_tests) in
          rw (low, met) (both (nat_le first u))
      | inr high ↦ rw high (none (nat_le first u) (nat_lt u node))
    ]
