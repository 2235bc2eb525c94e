-- What is looked up in a network.
use Rattle.std.proofs.Common.{◌≡◌, ℕ, zero, suc, List, [], ◌∷◌, get_or, Option, Some, None, slice_get, refl}
use Rattle.std.specs.Option.{option_map, unwrap_or}

pub mapped_or : {X : Type 0} (f : X → List ℕ) (o : Option X) (d : X) → f (unwrap_or o d) ≡ unwrap_or (option_map f o) (f d)
mapped_or f None d = refl
mapped_or f (Some x) d = refl

-- a name that is looked up
pub name_known : (names : List (List ℕ)) (u : ℕ) → unwrap_or (slice_get names u) [] ≡ get_or names u []
name_known [] u = refl
name_known (name ∷ names) zero = refl
name_known (name ∷ names) (suc u) = name_known names u
