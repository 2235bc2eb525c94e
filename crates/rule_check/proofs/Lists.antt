-- Lists of words and of names.
use Rattle.std.proofs.Common.{◌≡◌, ℕ, ◌+◌, List, [], ◌∷◌, ◌++◌, length, suc, refl, sym, ap, ◌∙◌, drop, map}
use Rattle.std.specs.List.{AllByRecursion}
use Rattle.std.proofs.lemmas.List.{drop-drop}
use Rattle.std.proofs.Math.Seq.{drop-append_seam}
use Rattle.rule_check.specs.declared.parts.Field.{Field}
use Rattle.rule_check.specs.declared.parts.Gatherer.{Gatherer}
use Rattle.rule_check.specs.Shapes.{part_shape}
use Rattle.rule_check.specs.Fields.{field_names}

-- what holds of each element of two lists holds of each of both
pub all_append : {A : Type 0} (P : A → Type 0) (xs ys : List A) → AllByRecursion P xs → AllByRecursion P ys → AllByRecursion P (xs ++ ys)
all_append P [] ys h g = g
all_append P (x ∷ xs) ys h g = (h.0, all_append P xs ys h.1 g)

-- and what holds of both holds of the second
pub all_behind : {A : Type 0} (P : A → Type 0) (xs ys : List A) → AllByRecursion P (xs ++ ys) → AllByRecursion P ys
all_behind P [] ys h = h
all_behind P (x ∷ xs) ys h = all_behind P xs ys h.1

-- as many values as elements
pub map_length : {A : Type 0} (f : A → ℕ) (xs : List A) → length (map f xs) ≡ length xs
map_length f [] = refl
map_length f (x ∷ xs) = ap suc (map_length f xs)

-- equal functions make equal lists
pub map_same : {A : Type 0} (f g : A → ℕ) (xs : List A) → ((x : A) → f x ≡ g x) → map f xs ≡ map g xs
map_same f g [] e = refl
map_same f g (x ∷ xs) e = ap (λ y. y ∷ map f xs) (e x) ∙ ap (λ ys. g x ∷ ys) (map_same f g xs e)

-- a list that begins with another
pub seam : (xs ys zs : List ℕ) (n k : ℕ) → length xs ≡ n → drop k zs ≡ xs ++ ys → drop (k + n) zs ≡ ys
seam xs ys zs n k len e =
    sym (drop-drop n k zs) ∙ ap (drop n) e ∙ ap (λ m. drop m (xs ++ ys)) (sym len) ∙ drop-append_seam xs ys

-- as many names as fields
pub name_count : (fields : List Field) → length (field_names fields) ≡ length fields
name_count [] = refl
name_count (f ∷ fs) = ap suc (name_count fs)

-- as many shapes as aggregates
pub shape_count : (gs : List Gatherer) → length (map part_shape gs) ≡ length gs
shape_count [] = refl
shape_count (g ∷ gs) = ap suc (shape_count gs)
