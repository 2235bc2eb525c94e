-- The first test that holds tells the fault.
use Rattle.std.proofs.Common.{◌≡◌, ◌<◌, ◌≤◌, ℕ, Option, Some, refl, arith}
use Rattle.std.specs.Prelude.{Bool, true, false, min, nat_lt, if◌then◌else◌}
use Rattle.std.proofs.lemmas.Bool.{lt-ltb, le-ltb}
use Rattle.rule_check.specs.declared.fault.CheckFault.{CheckFault}
use Rattle.rule_check.specs.Table.{M}

-- a test that holds
pub holds : (test : Bool) (fault : CheckFault) (rest : Option CheckFault) → test ≡ true → (if test then Some fault else rest) ≡ Some fault
holds true fault rest e = refl
holds false fault rest e = cc

-- a test that does not hold leaves it to those after it
pub fails : (test : Bool) (fault : CheckFault) (rest found : Option CheckFault) → test ≡ false → rest ≡ found → (if test then Some fault else rest) ≡ found
fails true fault rest found e next = cc
fails false fault rest found e next = next

-- counts above a limit and within it
pub above : (limit n count : ℕ) → count ≡ n → limit < count → nat_lt limit n ≡ true
above limit n count e h = lt-ltb limit n (omega arith)

pub not_above : (limit n count : ℕ) → count ≡ n → count ≤ limit → nat_lt limit n ≡ false
not_above limit n count e h = le-ltb limit n (omega arith)

pub not_many : (n count : ℕ) → count ≡ n → count ≤ 8 → 8 < n → ⊥
not_many n count e h more = omega arith

-- a count as far as a word goes
pub many_parts : (n count : ℕ) → count ≡ min n M → 16 < count → nat_lt 16 n ≡ true
many_parts n count e h = lt-ltb 16 n (omega arith)
