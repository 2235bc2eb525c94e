-- One element more of a list of which each is mapped.
use Rattle.std.proofs.Common.{◌≡◌, ℕ, ◌+◌, ◌<◌, List, [], ◌∷◌, ◌++◌, map, length, take, get_or, ap, sym, ◌∙◌}
use Rattle.std.proofs.lemmas.List.{take_more, map-append}

pub map_more : {A B : Type 0} (f : A → B) (xs : List A) (i : ℕ) (d : A) → i < length xs → map f (take i xs) ++ f (get_or xs i d) ∷ [] ≡ map f (take (i + 1) xs)
map_more f xs i d low = sym (ap (map f) (take_more xs i d low) ∙ map-append f (take i xs) (get_or xs i d ∷ []))
