-- Ranges that grow by numbers.
use Rattle.std.proofs.Common.{◌≡◌, ℕ, ◌+◌, ◌<◌, ◌≤◌, List, [], ◌∷◌, ◌++◌, length, get_or, take, map, refl, sym, ap, subst, ◌∙◌, arith, append_assoc, add-one, length-append, inl, inr}
use Rattle.std.specs.Prelude.{Contains, flat_map, min, max}
use Rattle.std.proofs.lemmas.Bool.{cases_lt}
use Rattle.std.proofs.lemmas.List.{append-nil, map-append, get_or_append_left, get_or-append-add}
use Rattle.std.proofs.lemmas.List.Elements.{All-push}
use Rattle.std.proofs.Math.Seq.{take-suc}
use Rattle.link_net.specs.Neighbours.{Neighbours, degree, row}
use Rattle.net_facts.specs.declared.facts.Range.{Range}
use Rattle.net_facts.specs.Facts.{IsRange, weights_of}

-- an element of the front
pub in_front : (xs ys : List ℕ) (x : ℕ) → Contains xs x → Contains (xs ++ ys) x
in_front xs ys x (k, inside, is) = (k, omega (arith, length-append xs ys), get_or_append_left xs ys x k inside ∙ is)

-- the last element
pub at_end : (xs : List ℕ) (x : ℕ) → Contains (xs ++ x ∷ []) x
at_end xs x = (length xs + 0, omega (arith, length-append xs (x ∷ [])), get_or-append-add xs (x ∷ []) 0 x)

pub degrees_more : (network : Neighbours) (k : ℕ) → k < length network → map length (take (k + 1) network) ≡ map length (take k network) ++ degree network k ∷ []
degrees_more network k inside = ap (λ n. map length (take n network)) (add-one k) ∙ ap (map length) (take-suc network k [] inside) ∙ map-append length (take k network) (row network k ∷ [])

flat_append : (f : List (ℕ × ℕ) → List ℕ) (xs ys : Neighbours) → flat_map f (xs ++ ys) ≡ flat_map f xs ++ flat_map f ys
flat_append f [] ys = refl
flat_append f (x ∷ xs) ys = ap (λ t. f x ++ t) (flat_append f xs ys) ∙ sym (append_assoc (f x) (flat_map f xs) (flat_map f ys))

pub weights_more : (network : Neighbours) (k : ℕ) → k < length network → weights_of (take (k + 1) network) ≡ weights_of (take k network) ++ map (λ a. a.1) (row network k)
weights_more network k inside =
    let seconds = λ (r : List (ℕ × ℕ)). map (λ a. a.1) r in
    ap (λ n. weights_of (take n network)) (add-one k) ∙ ap weights_of (take-suc network k [] inside)
    ∙ flat_append seconds (take k network) (row network k ∷ [])
    ∙ ap (λ t. weights_of (take k network) ++ t) (append-nil (seconds (row network k)))

-- a range with a number taken in
pub widened : (numbers : List ℕ) (x : ℕ) (old later : Range) → later.least ≡ min old.least x → later.greatest ≡ max old.greatest x → IsRange numbers old → IsRange (numbers ++ x ∷ []) later
widened numbers x old later low high is = record {
  least = elim (cases_lt x old.least) [
    | inl below ↦ subst (Contains (numbers ++ x ∷ [])) (omega (arith, low)) (at_end numbers x)
    | inr above ↦ subst (Contains (numbers ++ x ∷ [])) (omega (arith, low)) (in_front numbers (x ∷ []) old.least is.least)
  ];
  greatest = elim (cases_lt old.greatest x) [
    | inl above ↦ subst (Contains (numbers ++ x ∷ [])) (omega (arith, high)) (at_end numbers x)
    | inr below ↦ subst (Contains (numbers ++ x ∷ [])) (omega (arith, high)) (in_front numbers (x ∷ []) old.greatest is.greatest)
  ];
  within = All-push (λ y. (later.least ≤ y) × (y ≤ later.greatest)) numbers x (λ k d inside. let h = is.within k d inside in (omega (arith, low, h), omega (arith, high, h))) (omega (arith, low), omega (arith, high));
}

pub take_last : (numbers more : List ℕ) (k : ℕ) → k < length more → (numbers ++ take k more) ++ get_or more k 0 ∷ [] ≡ numbers ++ take (k + 1) more
take_last numbers more k inside =
    append_assoc numbers (take k more) (get_or more k 0 ∷ [])
    ∙ ap (λ t. numbers ++ t) (sym (ap (λ n. take n more) (add-one k) ∙ take-suc more k 0 inside))
