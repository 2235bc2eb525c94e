-- A text cut at its first comma, and the places between its commas.
use Rattle.std.proofs.Common.{◌≡◌, ◌≢◌, ℕ, ◌+◌, ◌<◌, Bool, false, ◌==◌, List, [], ◌∷◌, ◌++◌, length, get_or, refl, arith, Option, Bor, if◌then◌else◌}
use Rattle.std.proofs.lemmas.Bool.Decides.{nat_tests}
use Rattle.std.proofs.lemmas.Grind.{common_steps}
use Rattle.std.specs.List.{list_any, slice_split}
use Rattle.std.specs.Option.{option_map_or}
use Rattle.import_formats.specs.edges.Places.{is_comma, has_word, has_gap}

-- no byte of the list is c
abbrev pub Lacks : ℕ → List ℕ → Type 0
Lacks c xs = (i : ℕ) → i < length xs → get_or xs i 0 ≢ c

head_differs : (c x : ℕ) (xs : List ℕ) → Lacks c (x ∷ xs) → (x == c) ≡ false
head_differs c x xs h = let ne : x ≢ c = h 0 (grind (arith, common_steps)) in grind (arith, nat_tests)

Lacks-tail : (c x : ℕ) (xs : List ℕ) → Lacks c (x ∷ xs) → Lacks c xs
Lacks-tail c x xs h i lt = let k = h (i + 1) (grind (arith, common_steps)) in grind (arith, common_steps)

pub split_whole : (xs : List ℕ) → Lacks 44 xs → slice_split is_comma xs ≡ xs ∷ []
split_whole [] h = refl
split_whole (x ∷ xs) h = rw (head_differs 44 x xs h, split_whole xs (Lacks-tail 44 x xs h))

pub split_at_comma : (xs ys : List ℕ) → Lacks 44 xs → slice_split is_comma (xs ++ 44 ∷ ys) ≡ xs ∷ slice_split is_comma ys
split_at_comma [] ys h = refl
split_at_comma (x ∷ xs) ys h = rw (head_differs 44 x xs h, split_at_comma xs ys (Lacks-tail 44 x xs h))

-- whether there is a gap in the places that are left, where one without a word was seen or none
abbrev pub gap_left : Bool → List (List ℕ) → Bool
gap_left seen places = if seen then list_any has_word places else has_gap places

-- the places that are left
abbrev pub places_left : Option (Bor (List ℕ)) → List (List ℕ)
places_left rest = option_map_or (λ r. slice_split is_comma r.now) rest []
