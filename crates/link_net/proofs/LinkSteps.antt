-- Steps of the reader of links.
use Rattle.std.proofs.Common.{◌≡◌, ℕ, ℤ, pos, negsuc, ◌+◌, ◌<◌, ◌≤◌, ◌&&◌, nat_le, List, [], ◌∷◌, ◌++◌, length, drop, map, Option, Some, None, option_map, refl, ap, ◌∙◌, append_assoc, append-nil, arith, inl, inr}
use Rattle.std.proofs.lemmas.List.{drop_all}
use Rattle.std.specs.Prelude.{option_and_then}
use Rattle.std.proofs.lemmas.Bool.{cases_Bool, and_parts}
use Rattle.std.proofs.lemmas.Bool.Decides.{nat_tests}
use Rattle.link_net.specs.Links.{AllWithin}
use Rattle.link_net.specs.Reading.{number_in, placed, all_placed}
use Rattle.link_net.specs.Tables.{settled}
use Rattle.link_net.specs.Arcs.{Arc}

-- a link as the file has it, and one whose ends are nodes
abbrev pub Raw : Type 0
Raw = ℤ × ℤ × ℤ

abbrev pub Half : Type 0
Half = ℕ × ℕ × ℤ

-- one more link read
pub all_placed-step : (all : Option (List Arc)) (done : List Arc) (last : ℕ) (l : Raw) (ls : List Raw) (link : Arc) → option_map settled (placed last l) ≡ Some link
    → all ≡ option_map (λ ps. done ++ map settled ps) (all_placed last (l ∷ ls)) → all ≡ option_map (λ ps. (done ++ link ∷ []) ++ map settled ps) (all_placed last ls)
all_placed-step all done last l ls link is before = at (placed last l) (all_placed last ls) is before where
  at : (here : Option Half) (rest : Option (List Half)) → option_map settled here ≡ Some link
      → all ≡ option_map (λ ps. done ++ map settled ps) (option_and_then (λ p. option_map (λ ps. p ∷ ps) rest) here) → all ≡ option_map (λ ps. (done ++ link ∷ []) ++ map settled ps) rest
  at None rest is e = cc
  at (Some p) None is e = e
  at (Some p) (Some ps) is e =
      let same : settled p ≡ link = cc in
      rw append_assoc (rw same at e)

-- a link that is not read
pub all_placed-stop : (all : Option (List Arc)) (done : List Arc) (last : ℕ) (l : Raw) (ls : List Raw) → option_map settled (placed last l) ≡ None
    → all ≡ option_map (λ ps. done ++ map settled ps) (all_placed last (l ∷ ls)) → all ≡ None
all_placed-stop all done last l ls is before = at (placed last l) is before where
  at : (here : Option Half) → option_map settled here ≡ None → all ≡ option_map (λ ps. done ++ map settled ps) (option_and_then (λ p. option_map (λ ps. p ∷ ps) (all_placed last ls)) here) → all ≡ None
  at None is e = e
  at (Some p) is e = cc

-- all links read
pub all_placed-end : (all : Option (List Arc)) (done : List Arc) (last i : ℕ) (ls : List Raw) → length ls ≤ i
    → all ≡ option_map (λ ps. done ++ map settled ps) (all_placed last (drop i ls)) → all ≡ Some done
all_placed-end all done last i ls past before = before ∙ ap (λ rest. option_map (λ ps. done ++ map settled ps) (all_placed last rest)) (drop_all i ls past) ∙ ap Some (append-nil done)

number_below : (high : ℕ) (z : ℤ) (k : ℕ) → number_in 0 high z ≡ Some k → k < high + 1
number_below high (pos m) k e =
    elim (cases_Bool (nat_le 0 m && nat_le m high)) [
      | inl fits ↦
          let same = rw fits at e in
          let is : m ≡ k = cc in
          let parts = and_parts (nat_le 0 m) (nat_le m high) fits in
          let low : m ≤ high = grind (arith, nat_tests, parts.1) in
          omega arith
      | inr other ↦ let same = rw other at e in cc
    ]
number_below high (negsuc m) k e = cc

-- both ends of a placed link are nodes
pub ends_below : (last : ℕ) (l : Raw) (link : Arc) → option_map settled (placed last l) ≡ Some link → (link.0 < last + 1) × (link.1 < last + 1)
ends_below last l link is = at (number_in 0 last l.0) (number_in 0 last l.1) refl refl is where
  at : (first second : Option ℕ) → number_in 0 last l.0 ≡ first → number_in 0 last l.1 ≡ second
      → option_map settled (option_and_then (λ u. option_map (λ w. (u, w, l.2)) second) first) ≡ Some link → (link.0 < last + 1) × (link.1 < last + 1)
  at None second f s e = cc
  at (Some u) None f s e = cc
  at (Some u) (Some w) f s e =
      let same : settled (u, w, l.2) ≡ link = cc in
      rw (← same) (number_below last l.0 u f, number_below last l.1 w s)

pub AllWithin-push : (n : ℕ) (xs : List Arc) (p : Arc) → AllWithin n xs → (p.0 < n) × (p.1 < n) → AllWithin n (xs ++ p ∷ [])
AllWithin-push n [] p all here = (here, tt)
AllWithin-push n (x ∷ xs) p all here = (all.0, AllWithin-push n xs p all.1 here)
