-- Short lists of nodes.
use Rattle.std.proofs.Common.{◌≡◌, ℕ, ◌≤◌, ◌==◌, Bool, true, false, ◌||◌, ◌&&◌, List, [], ◌∷◌, ◌++◌, length, refl, arith}
use Rattle.std.proofs.lemmas.Bool.Decides.{nat_tests}
use Rattle.net_shapes.specs.Ahead.{when}
use Rattle.net_shapes.proofs.Ahead.{has, has_twice}

pub has_when : (wanted : Bool) (x w : ℕ) → has w (when wanted x) ≡ (wanted && w == x)
has_when true x w = grind (arith, nat_tests)
has_when false x w = refl

pub once_when : (wanted : Bool) (x : ℕ) → has_twice (when wanted x) ≡ false
once_when true x = refl
once_when false x = refl

pub short_when : (wanted : Bool) (x : ℕ) → length (when wanted x) ≤ 1
short_when true x = omega arith
short_when false x = omega arith

pub has-append : (w : ℕ) (xs ys : List ℕ) → has w (xs ++ ys) ≡ (has w xs || has w ys)
has-append w [] ys = refl
has-append w (x ∷ xs) ys = rw (has-append w xs ys) (grind (arith, nat_tests))

pub once_two : (a b : Bool) (x y : ℕ) → (a ≡ true → b ≡ true → (x == y) ≡ false) → has_twice (when a x ++ when b y) ≡ false
once_two true true x y h = let other = h refl refl in grind (arith, nat_tests)
once_two true false x y h = refl
once_two false true x y h = refl
once_two false false x y h = refl
