-- Lists of texts, seen by their bytes.
use Rattle.std.proofs.Common.{◌≡◌, ℕ, ◌+◌, Bool, true, false, not, ◌||◌, List, [], ◌∷◌, map, length, nat_lt, suc, refl, ap, sym, arith, String, Global, string_bytes, cond}
use Rattle.std.specs.List.{list_any, position_or_len, position, IsDistinct, AllByRecursion}
use Rattle.std.specs.Str.{bytes_eq}
use Rattle.std.specs.String.{string_eq}
use Rattle.std.proofs.lemmas.Bool.{lt-ltb}
use Rattle.std.proofs.lemmas.List.{length-map}

module _ {X Y : Type 0} (f : X → Y) (p : Y → Bool) where
  pub place-map : (xs : List X) → position_or_len (λ x. p (f x)) xs ≡ position_or_len p (map f xs)
  place-map [] = refl
  place-map (x ∷ xs) = ap (λ n. cond (not (p (f x))) (1 + n) 0) (place-map xs)

  pub position-map : (xs : List X) → position (λ x. p (f x)) xs ≡ position p (map f xs)
  position-map xs = rw (place-map xs, length-map xs f) refl

  any-here : (b : Bool) (any : Bool) (place n : ℕ) → any ≡ nat_lt place n → (b || any) ≡ nat_lt (cond (not b) (1 + place) 0) (suc n)
  any-here true any place n h = sym (lt-ltb 0 (suc n) (omega arith))
  any-here false any place n h = grind (arith, h)

  pub any-map : (xs : List X) → list_any (λ x. p (f x)) xs ≡ nat_lt (position_or_len p (map f xs)) (length (map f xs))
  any-map [] = refl
  any-map (x ∷ xs) = any-here (p (f x)) (list_any (λ y. p (f y)) xs) (position_or_len p (map f xs)) (length (map f xs)) (any-map xs)

-- an item passes where the first place that does is below the length
pub any-place : {X : Type 0} (p : X → Bool) (xs : List X) → list_any p xs ≡ nat_lt (position_or_len p xs) (length xs)
any-place p [] = refl
any-place {X} p (x ∷ xs) = any-here (λ (y : X). y) p (p x) (list_any p xs) (position_or_len p xs) (length xs) (any-place p xs)

apart-map : (k : String Global) (ks : List (String Global)) → AllByRecursion (λ x. string_eq k x ≡ false) ks
    → AllByRecursion (λ x. bytes_eq (string_bytes k) x ≡ false) (map string_bytes ks)
apart-map k [] h = tt
apart-map k (x ∷ xs) h = (h.0, apart-map k xs h.1)

-- texts that are apart have bytes that are
pub distinct-map : (ks : List (String Global)) → IsDistinct string_eq ks → IsDistinct bytes_eq (map string_bytes ks)
unfolding IsDistinct
distinct-map [] h = tt
distinct-map (k ∷ ks) h = (apart-map k ks h.0, distinct-map ks h.1)
