-- What is looked up in a network, and links from one node on.
use Rattle.std.proofs.Common.{◌≡◌, ◌∙◌, ◌<◌, ◌+◌, ◌++◌, ◌-◌, ℕ, zero, suc, List, [], ◌∷◌, Bool, true, false, if◌then◌else◌, Option, Some, None, ap, arith, drop, get_or, length, map, nat_lt, refl, slice_get}
use Rattle.std.proofs.lemmas.List.{drop_more}
use Rattle.std.specs.List.{filter, flat_map, range_with_len}
use Rattle.std.specs.Option.{option_map, unwrap_or}
use Rattle.link_net.specs.Neighbours.{Neighbours, row}
use Rattle.serde_json.specs.Data.{Data}
use Rattle.run_page.specs.Pages.{links_up, numbers}

pub mapped_or : {X : Type 0} (f : X → List ℕ) (o : Option X) (d : X) → f (unwrap_or o d) ≡ unwrap_or (option_map f o) (f d)
mapped_or f None d = refl
mapped_or f (Some x) d = refl

-- a part of a node's row that is looked up
pub row_known : (f : ℕ × ℕ → ℕ) (network : Neighbours) (u : ℕ) → unwrap_or (option_map (λ (r : List (ℕ × ℕ)). map f r) (slice_get network u)) [] ≡ map f (row network u)
row_known f [] u = refl
row_known f (r ∷ network) zero = refl
row_known f (r ∷ network) (suc u) = row_known f network u

abbrev link : ℕ → ℕ × ℕ → Data
link u a = numbers (u ∷ (a.0 ∷ (a.1 ∷ [])))

first_link : (u : ℕ) (b : Bool) (a : ℕ × ℕ) (rest : List (ℕ × ℕ)) → map (link u) (if b then a ∷ rest else rest) ≡ map (link u) (if b then a ∷ [] else []) ++ map (link u) rest
first_link u true a rest = refl
first_link u false a rest = refl

-- the first of them
pub links_more : (u : ℕ) (r : List (ℕ × ℕ)) (k : ℕ) → k < length r → links_up u (drop k r) ≡ links_up u (get_or r k (0, 0) ∷ []) ++ links_up u (drop (k + 1) r)
links_more u r k inside =
    let a = get_or r k (0, 0) in
    ap (links_up u) (drop_more r k (0, 0) inside) ∙ first_link u (nat_lt u a.0) a (filter (λ a. nat_lt u a.0) (drop (k + 1) r))

-- the first of so many numbers, and those after it
pub flat_left : {X : Type 0} (f : ℕ → List X) (i n : ℕ) → i < n → flat_map f (range_with_len i (n - i)) ≡ f i ++ flat_map f (range_with_len (i + 1) (n - (i + 1)))
flat_left f i n inside =
    let e : n - i ≡ suc (n - (i + 1)) = omega (arith, inside) in
    ap (λ k. flat_map f (range_with_len i k)) e
