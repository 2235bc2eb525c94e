-- The names of a program's fields.
use Rattle.std.proofs.Common.{◌<◌, length, ◌+◌, ◌||◌, Bool, true, false, ◌∷◌, Some, None, refl, sym, subst, arith, add-one, if◌then◌else◌, ◌≡◌, ℕ, List, [], get_or, ap, ◌∙◌, Option, slice_get}
use Rattle.std.specs.Option.{option_map, unwrap_or}
use Rattle.std.proofs.lemmas.Option.{unwrap_or-slice_get}
use Rattle.std.proofs.lemmas.List.{length-map}
use Rattle.std.specs.Option.{unwrap_or}
use Rattle.std.specs.Str.{bytes_eq}
use Rattle.rule_check.specs.Value.{Rules, names_of, place}
use Rattle.rule_check.specs.WellFormed.{is_among}

pub mapped_or : {X : Type 0} (f : X → List ℕ) (o : Option X) (d : X) → f (unwrap_or o d) ≡ unwrap_or (option_map f o) (f d)
mapped_or f None d = refl
mapped_or f (Some x) d = refl

-- the bytes of the name that was looked up
pub name_known : {X : Type 0} (bytes : X → List ℕ) (names : List (List ℕ)) (place : ℕ) (found : Option X) (none name : X) → bytes none ≡ [] → name ≡ unwrap_or found none → option_map bytes found ≡ slice_get names place → bytes name ≡ get_or names place []
name_known bytes names place found none name empty is at =
    ap bytes is ∙ mapped_or bytes found none ∙ ap (unwrap_or (option_map bytes found)) empty ∙ ap (λ o. unwrap_or o []) at ∙ unwrap_or-slice_get names place []

-- a name that is among others is so further on, where it is not the first
pub among_rest : (b c : Bool) → b ≡ false → (b || c) ≡ true → c ≡ true
among_rest true c h g = cc
among_rest false c h g = g

pub some_place : (b : Bool) (f p : ℕ) → Some f ≡ (if b then Some p else None) → b ≡ true → f ≡ p
some_place true f p h is = cc
some_place false f p h is = cc

below_step : (b : Bool) (n m : ℕ) → (b ≡ false → n < m) → (if b then 0 else n + 1) < m + 1
below_step true n m h = omega arith
below_step false n m h = let lt = h refl in omega arith

pub place-below : (names : List (List ℕ)) (name : List ℕ) → is_among names name ≡ true → place names name < length names
place-below [] name among = cc
place-below (x ∷ xs) name among =
    let more : length (x ∷ xs) ≡ length xs + 1 = sym (add-one (length xs)) in
    subst (λ n. place (x ∷ xs) name < n) (sym more)
    (below_step (bytes_eq x name) (place xs name) (length xs) (λ other. place-below xs name (among_rest (bytes_eq x name) (is_among xs name) other among)))

pub name_count : (program : Rules) → length (names_of program) ≡ length program.fields
name_count program = length-map program.fields (λ f. f.name)
