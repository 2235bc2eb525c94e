-- Names and their numbers.
use Rattle.std.proofs.Common.{◌≡◌, ℕ, ◌<◌, ◌≤◌, Bool, true, false, not, cond, List, [], ◌∷◌, ◌++◌, length, Some, None, Ok, refl, ap, sym, ◌∙◌, arith}
use Rattle.std.specs.List.{AllByRecursion, IsDistinct, list_any, position, slice_get}
use Rattle.std.specs.Str.{is_utf8, bytes_eq}
use Rattle.std.proofs.lemmas.Bool.{ltb-false, lt-ltb, le-leb}
use Rattle.std.proofs.lemmas.List.{length-append}
use Rattle.std.proofs.lemmas.List.Sums.{prefix_len-le-length}
use Rattle.std.proofs.lemmas.List.Quantifiers.{position-Some}
use Rattle.std.proofs.lemmas.Option.{slice_get-get_or}
use Rattle.std.proofs.lemmas.Slice.Eq.{bytes_eq-Decides}
use Rattle.link_net.specs.Limits.{most_rows}
use Rattle.net_names.specs.Naming.{AreNames, AreListed, most_name_bytes, is_control, is_name, place_in, has_name, with_name, number_in}

-- text of the right length is a name where it has no control character
pub name_when : (bytes : List ℕ) → is_utf8 bytes ≡ true → 0 < length bytes → length bytes ≤ most_name_bytes → not (list_any is_control bytes) ≡ is_name bytes
name_when bytes text some short = rw (lt-ltb 0 (length bytes) some, le-leb (length bytes) most_name_bytes short, text) refl

-- one more that the property holds of
each-push : {X : Type 0} (P : X → Type 0) (xs : List X) (x : X) → AllByRecursion P xs → P x → AllByRecursion P (xs ++ x ∷ [])
each-push P [] x all here = (here, tt)
each-push P (y ∷ ys) x all here = (all.0, each-push P ys x all.1 here)

-- one more name
pub names-push : (names : List (List ℕ)) (name : List ℕ) → AreNames names → is_name name ≡ true → length names < most_rows → IsDistinct bytes_eq (names ++ name ∷ []) → AreNames (names ++ name ∷ [])
names-push names name are named room distinct = record {
  each = each-push (λ n. is_name n ≡ true) names name are.each named;
  distinct = distinct;
  few = omega (arith, length-append names (name ∷ []));
}

-- one more name of a list
pub listed-push : (names : List (List ℕ)) (name : List ℕ) → length names < most_rows → IsDistinct bytes_eq (names ++ name ∷ []) → AreListed (names ++ name ∷ [])
listed-push names name room distinct = record {
  distinct = distinct;
  few = omega (arith, length-append names (name ∷ []));
}

placed : (b : Bool) (p i : ℕ) → Some i ≡ cond b (Some p) None → (b ≡ true) × (p ≡ i)
placed true p i h = (refl, grind (arith, h))
placed false p i h = grind (arith, h)

unplaced : (b : Bool) (p : ℕ) → None ≡ cond b (Some p) None → b ≡ false
unplaced true p h = grind (arith, h)
unplaced false p h = refl

last-get : {X : Type 0} (xs : List X) (x : X) → slice_get (xs ++ x ∷ []) (length xs) ≡ Some x
last-get [] x = refl
last-get (y ∷ ys) x = last-get ys x

module _ (names : List (List ℕ)) (name : List ℕ) where
  -- a name whose place is low enough
  pub number_is : (most : ℕ) → is_name name ≡ true → place_in names name < most → number_in most names name ≡ Ok (place_in names name)
  number_is most named low = rw (named, lt-ltb (place_in names name) most low) refl

  -- a name that is there
  pub there_at : (i : ℕ) → i ≡ place_in names name → i < length names → Some i ≡ position (bytes_eq name) names
  there_at i at low =
      let has : has_name names name ≡ true = lt-ltb (place_in names name) (length names) (omega (arith, at, low)) in
      rw has (ap Some at)

  pub get_there : (i : ℕ) → Some i ≡ position (bytes_eq name) names → slice_get names i ≡ Some name
  get_there i at =
      let there = position-Some (bytes_eq name) names i [] (sym at) in
      slice_get-get_or names i [] there.0 ∙ ap Some (sym ((bytes_eq-Decides name _).0 there.1))

  -- a name that is new
  pub is_new : None ≡ position (bytes_eq name) names → has_name names name ≡ false
  is_new none = unplaced (has_name names name) (place_in names name) none

  pub place_of_new : has_name names name ≡ false → place_in names name ≡ length names
  place_of_new new = omega (arith, prefix_len-le-length (λ n. not (bytes_eq name n)) names, ltb-false (place_in names name) (length names) new)

  pub get_new : slice_get (names ++ name ∷ []) (length names) ≡ Some name
  get_new = last-get names name

  -- names of a list
  pub place_there : (i : ℕ) → Some i ≡ position (bytes_eq name) names → i ≡ place_in names name
  place_there i at = sym ((placed (has_name names name) (place_in names name) i at).1)

  pub with_there : (i : ℕ) → Some i ≡ position (bytes_eq name) names → with_name names name ≡ names
  with_there i at = (let there = (placed (has_name names name) (place_in names name) i at).0 in rw there refl)

  pub with_new : None ≡ position (bytes_eq name) names → with_name names name ≡ names ++ name ∷ []
  with_new none = (let new = is_new none in rw new refl)
