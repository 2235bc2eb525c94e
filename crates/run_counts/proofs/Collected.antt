-- What is collected of results, where each is `Ok`.
use Rattle.std.proofs.Common.{◌≡◌, List, [], ◌∷◌, Result, Ok, Err, IfOk, Vec, Global, map, subst, sym}
use Rattle.std.specs.List.{AllZip, Contains}
use Rattle.std.specs.Result.{MatchResult}

all_ok : {A B : Type 0} (E : Type 0) (R : A → B → Type 0) (xs : List A) (ys : List B) → AllZip (λ x (r : Result B E). IfOk r (R x)) xs (map Ok ys) → AllZip R xs ys
all_ok E R [] [] all = tt
all_ok E R [] (y ∷ ys) all = absurd all
all_ok E R (x ∷ xs) [] all = absurd all
all_ok E R (x ∷ xs) (y ∷ ys) all = (all.0, all_ok E R xs ys all.1)

pub collected : {A B E : Type 0} (R : A → B → Type 0) (xs : List A) (rs : List (Result B E)) (r : Result (Vec B Global) E)
    → AllZip (λ x (r : Result B E). IfOk r (R x)) xs rs → MatchResult r (λ v. (ys : List B) × (rs ≡ map Ok ys) × (v.items ≡ ys)) (λ e. Contains rs (Err e))
    → IfOk r (λ v. AllZip R xs v.items)
collected {A} {B} {E} R xs rs (Ok v) all made =
    subst (λ (ys : List B). AllZip R xs ys) (sym made.2) (all_ok E R xs made.0 (subst (λ (q : List (Result B E)). AllZip (λ x (r : Result B E). IfOk r (R x)) xs q) made.1 all))
collected R xs rs (Err e) all made = tt
