-- Each arc shows the weight of its link.
use Rattle.std.proofs.Common.{◌≡◌, ◌∙◌, ℕ, ◌==◌, Bool, true, false, ◌&&◌, ◌||◌, List, [], ◌∷◌, map, refl, sym, ap, inl, inr, arith}
use Rattle.std.proofs.lemmas.Bool.{or_parts, cases_Bool}
use Rattle.std.proofs.lemmas.Bool.Decides.{nat_tests}
use Rattle.std.proofs.lemmas.List.Elements.{All-from_recursion, recursion_from_All}
use Rattle.std.proofs.lemmas.List.Sorted.{All-permutation}
use Rattle.std.specs.Cmp.{nat_eq_equiv}
use Rattle.std.specs.List.{list_any, AllByRecursion}
use Rattle.std.specs.List.Sorted.{IsPermutation}
use Rattle.link_net.specs.Links.{joins, has_link_twice, weight_of}
use Rattle.link_net.specs.Arcs.{Arc, arcs_of}
use Rattle.link_net.proofs.ArcLaws.{joins-sym}
use Rattle.link_net.proofs.Rows.{from_node, shown}

and_turns : (a b : Bool) → (a && b) ≡ (b && a)
and_turns true true = refl
and_turns true false = refl
and_turns false true = refl
and_turns false false = refl

-- two links join the same nodes, whichever is asked
joins-flips : (l m : Arc) → joins l.0 l.1 m ≡ joins m.0 m.1 l
joins-flips l m =
    rw (nat_eq_equiv.symm l.0 m.0, nat_eq_equiv.symm l.1 m.1, nat_eq_equiv.symm l.0 m.1, nat_eq_equiv.symm l.1 m.0)
    (ap (λ r. (m.0 == l.0 && m.1 == l.1) || r) (and_turns (m.1 == l.0) (m.0 == l.1)))

same_numbers : (u w : ℕ) → ((u == u) && (w == w)) ≡ true
same_numbers u w = grind (arith, nat_tests)

joins_its_ends : (l : Arc) → joins l.0 l.1 l ≡ true
joins_its_ends l = rw (same_numbers l.0 l.1)

weight_here : (u w : ℕ) (l : Arc) (ls : List Arc) → joins u w l ≡ true → weight_of (l ∷ ls) u w ≡ l.2
weight_here u w l ls here = rw here

weight_later : (u w : ℕ) (l : Arc) (ls : List Arc) → joins u w l ≡ false → weight_of (l ∷ ls) u w ≡ weight_of ls u w
weight_later u w l ls other = rw other

-- the weight between two nodes is that of the arc
abbrev pub AllWeigh : List Arc → List Arc → Type 0
AllWeigh links arcs = AllByRecursion (λ a. weight_of links a.0 a.1 ≡ a.2) arcs

one_more : (l : Arc) (links ls : List Arc) → list_any (joins l.0 l.1) ls ≡ false → AllWeigh links (arcs_of ls) → AllWeigh (l ∷ links) (arcs_of ls)
one_more l links [] new before = tt
one_more l links (m ∷ ms) new before =
    let parts = or_parts (joins l.0 l.1 m) (list_any (joins l.0 l.1) ms) new in
    let there : joins m.0 m.1 l ≡ false = sym (joins-flips l m) ∙ parts.0 in
    let back : joins m.1 m.0 l ≡ false = joins-sym m.1 m.0 l ∙ there in
    (weight_later m.0 m.1 l links there ∙ before.0, (weight_later m.1 m.0 l links back ∙ before.1.0, one_more l links ms parts.1 before.1.1))

links_weigh : (links : List Arc) → has_link_twice links ≡ false → AllWeigh links (arcs_of links)
links_weigh [] once = tt
links_weigh (l ∷ ls) once =
    let parts = or_parts (list_any (joins l.0 l.1) ls) (has_link_twice ls) once in
    let there = joins_its_ends l in
    let back : joins l.1 l.0 l ≡ true = joins-sym l.1 l.0 l ∙ there in
    (weight_here l.0 l.1 l ls there, (weight_here l.1 l.0 l ls back, one_more l ls ls parts.0 (links_weigh ls parts.1)))

-- the arcs of links that stand once show the links' weights, in any order
pub arcs_weigh : (links arcs : List Arc) → has_link_twice links ≡ false → IsPermutation (arcs_of links) arcs → AllWeigh links arcs
arcs_weigh links arcs once moved =
    recursion_from_All (λ a. weight_of links a.0 a.1 ≡ a.2) arcs
    (All-permutation (λ a. weight_of links a.0 a.1 ≡ a.2) (arcs_of links) arcs moved
    (All-from_recursion (λ a. weight_of links a.0 a.1 ≡ a.2) (arcs_of links) (links_weigh links once)))

paired : (u v x y : ℕ) (f : ℕ → ℕ → ℕ) (rest more : List (ℕ × ℕ)) → u ≡ v → f u x ≡ y → rest ≡ more → (x, y) ∷ rest ≡ (x, f v x) ∷ more
paired u v x y f rest more p q r = cc

-- what stands with the ends of the arcs from u are the weights of the links
pub ends_weigh : (links : List Arc) (u : ℕ) (arcs : List Arc) → AllWeigh links arcs → map shown (from_node u arcs) ≡ map (λ w. (w, weight_of links u w)) (map (λ a. a.1) (from_node u arcs))
ends_weigh links u [] weigh = refl
ends_weigh links u (a ∷ arcs) weigh =
    elim (cases_Bool (a.0 == u)) [
      | inl here ↦
          let is : a.0 ≡ u = grind (arith, nat_tests) in
          rw here (paired a.0 u a.1 a.2 (weight_of links) _ _ is weigh.0 (ends_weigh links u arcs weigh.1))
      | inr other ↦ rw other (ends_weigh links u arcs weigh.1)
    ]
