-- What the answers of tests say.
use Rattle.std.proofs.Common.{◌≡◌, refl}
use Rattle.std.specs.Prelude.{Bool, true, false, not, ◌||◌, if◌then◌else◌}

-- where one of two does not hold, neither does
pub neither : (a b : Bool) → (a || b) ≡ false → (a ≡ false) × (b ≡ false)
neither true b h = cc
neither false b h = (refl, h)

-- what is not false holds
pub not_false : (b : Bool) → not b ≡ false → b ≡ true
not_false true h = refl
not_false false h = cc

-- the choice of a test that fails
pub away : {A : Type 0} (b : Bool) (x y : A) → b ≡ false → (if b then x else y) ≡ y
away true x y h = cc
away false x y h = refl
