-- Quotients and their rests, in ranges.
use Rattle.std.specs.Prelude.{ℕ, Bool, true, false, max, ◌<◌, ◌≤◌, ◌/◌, ◌%◌, ◌==◌, if◌then◌else◌}
use Rattle.std.proofs.Common.{◌≡◌, arith}
use Rattle.std.proofs.lemmas.Bool.Decides.{nat_tests}
use Rattle.std.proofs.lemmas.Nat.{le-div, mul-le}
use Rattle.std.proofs.Math.Nat.{div-le_self, div-mul-le_self, mod-le, mod-lt}

-- a quotient is no greater than the first number, and 0 where the second is
pub quot_few : (b : Bool) (v w : ℕ) → (if b then 0 else v / w) ≤ v
quot_few true v w = omega arith
quot_few false v w = div-le_self v w

-- a rest is no greater than the first number, which it is where the second is 0
pub rem_few : (b : Bool) (v w : ℕ) → (if b then v else v % w) ≤ v
rem_few true v w = omega arith
rem_few false v w = mod-le v w

-- a quotient by a number from this one on, of a number up to that one
pub quot_most : (b : Bool) (v w m n : ℕ) → (w == 0) ≡ b → v ≤ m → n ≤ w → (if b then 0 else v / w) ≤ m / max n 1
quot_most true v w m n is few late = omega arith
quot_most false v w m n is few late =
    let some : 0 < w = grind (arith, nat_tests, is) in
    le-div (v / w) m (max n 1) (omega arith) (omega (arith, few, div-mul-le_self v w, mul-le (v / w) (max n 1) (v / w) w (omega arith) (omega (arith, late, some))))

-- a rest by a number from 1 on
pub rem_most : (b : Bool) (v w n : ℕ) → (w == 0) ≡ b → 0 < w → w ≤ n → (if b then v else v % w) < n
rem_most true v w n is some few = let none : w ≡ 0 = grind (arith, nat_tests, is) in absurd (omega (arith, some, none))
rem_most false v w n is some few = omega (arith, few, mod-lt v {m = w} some)
