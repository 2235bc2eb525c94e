-- The first place at which something stands in a list.
use Rattle.std.proofs.Common.{◌≡◌, ◌≢◌, ℕ, ◌<◌, Bool, true, false, List, length, position, nat_lt, slice_get, get_or, refl, sym, ap, ◌∙◌, Option, Some, None, inl, inr, arith}
use Rattle.std.specs.List.{position_or_len}
use Rattle.std.specs.Bool.{Decides}
use Rattle.std.proofs.lemmas.Bool.{cases_Bool}
use Rattle.std.proofs.lemmas.Bool.Decides.{nat_tests}
use Rattle.std.proofs.lemmas.List.Quantifiers.{position-Some}
use Rattle.std.proofs.lemmas.List.Sums.{fails_before_first, position_or_len_is}
use Rattle.std.proofs.lemmas.Option.{slice_get-get_or, slice_get_within, get_or_from_slice_get}

module _ {X : Type 0} (v d : X) (p : X → Bool) (decides : (x : X) → Decides (p x) (v ≡ x)) where
  -- a test that passes where v stands, and fails elsewhere
  passes : (xs : List X) (i : ℕ) → slice_get xs i ≡ Some v → p (get_or xs i d) ≡ true
  passes xs i h = (decides (get_or xs i d)).1 (sym (get_or_from_slice_get xs i v d h))

  fails : (xs : List X) (i : ℕ) → i < length xs → slice_get xs i ≢ Some v → p (get_or xs i d) ≡ false
  fails xs i less other =
      elim (cases_Bool (p (get_or xs i d))) [
        | inl is ↦ absurd (other (slice_get-get_or xs i d less ∙ ap Some (sym ((decides (get_or xs i d)).0 is))))
        | inr not ↦ not
      ]

  -- where a place is found, v stands there, and nowhere before
  pub found-first : (xs : List X) (i : ℕ) → position p xs ≡ Some i → (slice_get xs i ≡ Some v) × ((k : ℕ) → k < i → slice_get xs k ≢ Some v)
  found-first xs i h =
      let f = position-Some p xs i d h in (
        slice_get-get_or xs i d f.0 ∙ ap Some (sym ((decides (get_or xs i d)).0 f.1)),
        λ k less is. (let one = f.2 k less in let other = passes xs k is in let bad : true ≡ false = sym other ∙ one in cc),
      )

  -- and the place where v stands first is found
  pub first-found : (xs : List X) (i : ℕ) → slice_get xs i ≡ Some v → ((k : ℕ) → k < i → slice_get xs k ≢ Some v) → position p xs ≡ Some i
  first-found xs i h first =
      let less = slice_get_within xs i v h in
      let place : position_or_len p xs ≡ i = position_or_len_is p xs i d (omega arith) (λ k low. fails xs k (omega arith) (first k low)) (λ _. passes xs i h) in
      let test : nat_lt (position_or_len p xs) (length xs) ≡ true = grind (arith, nat_tests) in
      rw test (ap Some place)

  -- where none is found, v stands nowhere
  pub none-found : (xs : List X) (i : ℕ) → position p xs ≡ None → slice_get xs i ≢ Some v
  none-found xs i h is =
      let less = slice_get_within xs i v is in
      let yes = passes xs i is in
      elim (cases_Bool (nat_lt (position_or_len p xs) (length xs))) [
        | inl found ↦ (let some : position p xs ≡ Some (position_or_len p xs) = rw found refl in let bad : ◌≡◌ {A = Option ℕ} (Some (position_or_len p xs)) None = sym some ∙ h in cc)
        | inr past ↦ (
            let low : i < position_or_len p xs = grind (arith, nat_tests) in
            let no = fails_before_first p xs i d low in
            let bad : true ≡ false = sym yes ∙ no in
            cc)
      ]
