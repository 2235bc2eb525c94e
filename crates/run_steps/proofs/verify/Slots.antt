-- The slot at which a neighbour stands.
use Rattle.std.proofs.Common.{◌≡◌, ◌↔◌, ℕ, zero, suc, ◌<◌, ◌==◌, List, [], ◌∷◌, length, position, nat_lt, ◌≤◌, slice_get, get_or, refl, sym, ap, ◌∙◌, Option, Some, None, IfSome, inl, inr, arith}
use Rattle.std.specs.List.{position_or_len}
use Rattle.std.proofs.lemmas.Bool.{cases_Bool}
use Rattle.std.proofs.lemmas.Bool.Decides.{nat_tests, Decides-eqb}
use Rattle.std.proofs.lemmas.List.Quantifiers.{position-Some}
use Rattle.std.proofs.lemmas.Option.{slice_get-map, slice_get-get_or, slice_get_within}
use Rattle.link_net.specs.Neighbours.{Neighbours, degree, neighbour_at}
use Rattle.unison_world.specs.Turns.{neighbours_of}
use Rattle.unison_world.proofs.Turnings.{neighbours_many}
use Rattle.run_steps.specs.verify.Nodes.{slot_to}

neighbour-is : (network : Neighbours) (u j : ℕ) → neighbour_at network u j ≡ slice_get (neighbours_of network u) j
neighbour-is [] u j = refl
neighbour-is (r ∷ network) zero j = sym (slice_get-map (λ (a : ℕ × ℕ). a.0) r j)
neighbour-is (r ∷ network) (suc u) j = neighbour-is network u j

-- a place that is found
found-at : (v : ℕ) (xs : List ℕ) (i : ℕ) → position (λ w. v == w) xs ≡ Some i → slice_get xs i ≡ Some v
found-at v xs i h =
    let p = position-Some (λ w. v == w) xs i 0 h in
    slice_get-get_or xs i 0 p.0 ∙ ap Some (sym ((Decides-eqb v (get_or xs i 0)).0 p.1))

-- a number that stands at some place has a first one
stands : (v : ℕ) (xs : List ℕ) (j : ℕ) → slice_get xs j ≡ Some v → position_or_len (λ w. v == w) xs < length xs
stands v [] j h = absurd (cc)
stands v (x ∷ xs) zero h = (let same : v ≡ x = cc in rw ((Decides-eqb v x).1 same) (omega arith))
stands v (x ∷ xs) (suc j) h =
    let ih = stands v xs j h in
    elim (cases_Bool (v == x)) [
      | inl is ↦ rw is (omega arith)
      | inr other ↦ rw other (omega arith)
    ]

nowhere : (v : ℕ) (xs : List ℕ) (found : Option ℕ) → ((j : ℕ) → (found ≡ Some j) ↔ (slice_get xs j ≡ Some v)) → length xs ≤ position_or_len (λ w. v == w) xs → found ≡ None
nowhere v xs None h past = refl
nowhere v xs (Some j) h past = (let first = stands v xs j ((h j).0 refl) in absurd (omega arith))

position-is : (v : ℕ) (xs : List ℕ) (found : Option ℕ) → ((j : ℕ) → (found ≡ Some j) ↔ (slice_get xs j ≡ Some v)) → position (λ w. v == w) xs ≡ found
position-is v xs found h =
    let place = position_or_len (λ w. v == w) xs in
    elim (cases_Bool (nat_lt place (length xs))) [
      | inl is ↦ (let some : position (λ w. v == w) xs ≡ Some place = rw is refl in some ∙ sym ((h place).1 (found-at v xs place some)))
      | inr other ↦ (
          let none : position (λ w. v == w) xs ≡ None = rw other refl in
          let past : length xs ≤ place = grind (arith, nat_tests) in
          none ∙ sym (nowhere v xs found h past))
    ]

pub slot-is : (network : Neighbours) (u v : ℕ) (found : Option ℕ) → ((j : ℕ) → (found ≡ Some j) ↔ (neighbour_at network u j ≡ Some v)) → slot_to network u v ≡ found
slot-is network u v found h =
    position-is v (neighbours_of network u) found (λ j. (λ e. sym (neighbour-is network u j) ∙ (h j).0 e, λ e. (h j).1 (neighbour-is network u j ∙ e)))

-- a slot that is found is one of the node's
pub slot-few : (network : Neighbours) (u v : ℕ) (found : Option ℕ) → ((j : ℕ) → (found ≡ Some j) ↔ (neighbour_at network u j ≡ Some v)) → IfSome found (λ j. j < degree network u)
slot-few network u v None h = tt
slot-few network u v (Some j) h =
    let a = slice_get_within (neighbours_of network u) j v (sym (neighbour-is network u j) ∙ (h j).0 refl) in
    let b = neighbours_many network u in
    omega arith
