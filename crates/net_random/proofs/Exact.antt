-- A network that has the arcs of links which join different nodes, no two the same, is that of these links.
use Rattle.std.proofs.Common.{◌≡◌, ℕ, ◌+◌, ◌<◌, ◌≤◌, ◌==◌, Bool, true, false, ◌&&◌, ◌||◌, List, [], ◌∷◌, map, get_or, true≢false, Ordering, Less, Equal, Greater, nat_cmp, refl, sym, ap, ◌∙◌, inl, inr, arith}
use Rattle.std.specs.List.{list_any, AllByRecursion}
use Rattle.std.specs.List.Sorted.{IsSorted, IsNonDecreasingBy}
use Rattle.std.specs.Ordering.{is_lt, ordering_then}
use Rattle.std.proofs.lemmas.Bool.{cases_Bool}
use Rattle.std.proofs.lemmas.Bool.Decides.{nat_tests}
use Rattle.std.proofs.lemmas.List.{ext_get_or}
use Rattle.std.proofs.lemmas.List.Elements.{All-from_recursion, recursion_from_All}
use Rattle.std.proofs.lemmas.List.FromFn.{length-map-range_with_len, get_or-map-range_with_len}
use Rattle.std.proofs.lemmas.List.Sorted.{All-permutation, IsPermutation-map, IsNonDecreasingBy-from_sort, sum_by-IsPermutation}
use Rattle.link_net.specs.Arcs.{arcs_of}
use Rattle.link_net.specs.Links.{AllWithin, is_self_link, has_link_twice, joins, are_linked, linked_with, neighbours_of, network_of, weight_of}
use Rattle.link_net.specs.Neighbours.{Neighbours, row}
use Rattle.net_text.specs.Listing.{Link}
use Rattle.large_pack.specs.Rows.{ends_from, end_cmp, HasArcs}
use Rattle.net_random.proofs.SameEnds.{AreApart}
use Rattle.net_random.proofs.Ordered.{one_if, times, times_more, ascending_same, ascends, kept_ascends, times_kept}

-- the nodes of a row
abbrev nodes_of : List (ℕ × ℕ) → List ℕ
nodes_of r = map (λ e. e.0) r

linked_turned : (u w : ℕ) (ls : List Link) → are_linked ls u w ≡ are_linked ls w u
linked_turned u w [] = refl
linked_turned u w (l ∷ ls) = rw (linked_turned u w ls) (grind (arith, nat_tests))

-- no other link joins the two nodes that a link joins
others_apart : (u w : ℕ) (l : Link) (ls : List Link) → are_linked ls l.0 l.1 ≡ false → joins u w l ≡ true → are_linked ls u w ≡ false
others_apart u w l ls once h =
    elim (cases_Bool (u == l.0 && w == l.1)) [
      | inl straight ↦
          let first : u ≡ l.0 = grind (arith, nat_tests) in
          let second : w ≡ l.1 = grind (arith, nat_tests) in
          rw (first, second) once
      | inr other ↦
          let first : u ≡ l.1 = grind (arith, nat_tests) in
          let second : w ≡ l.0 = grind (arith, nat_tests) in
          rw (first, second) (linked_turned l.1 l.0 ls ∙ once)
    ]

-- how often a node stands among the ends of the arcs from u: once where a link joins the two
times_ends : (u w : ℕ) (ls : List Link) → list_any is_self_link ls ≡ false → has_link_twice ls ≡ false → times w (nodes_of (ends_from u (arcs_of ls))) ≡ one_if (are_linked ls u w)
times_ends u w [] apart once = refl
times_ends u w (l ∷ ls) apart once =
    let self : is_self_link l ≡ false = grind arith in
    let new : are_linked ls l.0 l.1 ≡ false = grind arith in
    let before = times_ends u w ls (grind arith) (grind arith) in
    let later = nodes_of (ends_from u (arcs_of ls)) in
    elim (cases_Bool (l.0 == u)) [
      | inl begins ↦
          let ends : (l.1 == u) ≡ false = grind (arith, nat_tests) in
          let alone : joins u w l ≡ (l.1 == w) = grind (arith, nat_tests) in
          rw (begins, ends, alone) (times_more w l.1 later ∙ ap (λ m. one_if (l.1 == w) + m) before ∙ either (l.1 == w) (are_linked ls u w) (λ h. others_apart u w l ls new (alone ∙ h)))
      | inr other ↦
          elim (cases_Bool (l.1 == u)) [
            | inl ends ↦
                let alone : joins u w l ≡ (l.0 == w) = grind (arith, nat_tests) in
                rw (other, ends, alone) (times_more w l.0 later ∙ ap (λ m. one_if (l.0 == w) + m) before ∙ either (l.0 == w) (are_linked ls u w) (λ h. others_apart u w l ls new (alone ∙ h)))
            | inr neither ↦
                let none : joins u w l ≡ false = grind (arith, nat_tests) in
                rw (other, neither, none) before
          ]
    ] where
      either : (p q : Bool) → (p ≡ true → q ≡ false) → one_if p + one_if q ≡ one_if (p || q)
      either true true h = absurd (true≢false (h refl))
      either true false h = refl
      either false true h = refl
      either false false h = refl

unlinked_past : (n u w : ℕ) (ls : List Link) → AllWithin n ls → n ≤ w → are_linked ls u w ≡ false
unlinked_past n u w [] all high = refl
unlinked_past n u w (l ∷ ls) all high =
    let (first, second) = all.0 in
    rw (unlinked_past n u w ls all.1 high) (grind (arith, nat_tests))

-- an end of an arc from u: a link joins the two, and the weight is that of the link
abbrev IsEnd : List Link → ℕ → ℕ × ℕ → Type 0
IsEnd ls u e = (are_linked ls u e.0 ≡ true) × (e.1 ≡ weight_of ls u e.0)

first_end : (u w : ℕ) (l : Link) (ls : List Link) → joins u w l ≡ true → IsEnd (l ∷ ls) u (w, l.2)
first_end u w l ls here = rw here (refl, refl)

-- also with one link more, which joins other nodes
later_end : (u : ℕ) (l : Link) (ls : List Link) → are_linked ls l.0 l.1 ≡ false → (e : ℕ × ℕ) → IsEnd ls u e → IsEnd (l ∷ ls) u e
later_end u l ls once e is =
    elim (cases_Bool (joins u e.0 l)) [
      | inl here ↦ absurd (true≢false (sym is.0 ∙ others_apart u e.0 l ls once here))
      | inr other ↦ rw other is
    ]

weaker : (P Q : ℕ × ℕ → Type 0) (xs : List (ℕ × ℕ)) → ((e : ℕ × ℕ) → P e → Q e) → AllByRecursion P xs → AllByRecursion Q xs
weaker P Q [] f all = tt
weaker P Q (x ∷ xs) f all = (f x all.0, weaker P Q xs f all.1)

ends_weighted : (u : ℕ) (ls : List Link) → list_any is_self_link ls ≡ false → has_link_twice ls ≡ false → AllByRecursion (IsEnd ls u) (ends_from u (arcs_of ls))
ends_weighted u [] apart once = tt
ends_weighted u (l ∷ ls) apart once =
    let self : is_self_link l ≡ false = grind arith in
    let new : are_linked ls l.0 l.1 ≡ false = grind arith in
    let rest = weaker (IsEnd ls u) (IsEnd (l ∷ ls) u) (ends_from u (arcs_of ls)) (later_end u l ls new) (ends_weighted u ls (grind arith) (grind arith)) in
    elim (cases_Bool (l.0 == u)) [
      | inl begins ↦
          let ends : (l.1 == u) ≡ false = grind (arith, nat_tests) in
          let here : joins u l.1 l ≡ true = grind (arith, nat_tests) in
          rw (begins, ends) (first_end u l.1 l ls here, rest)
      | inr other ↦
          elim (cases_Bool (l.1 == u)) [
            | inl ends ↦
                let here : joins u l.0 l ≡ true = grind (arith, nat_tests) in
                rw (other, ends) (first_end u l.0 l ls here, rest)
            | inr neither ↦ rw (other, neither) rest
          ]
    ]

-- a neighbour with the weight of the link to it
abbrev weighted : List Link → ℕ → ℕ → ℕ × ℕ
weighted ls u w = (w, weight_of ls u w)

-- a row of such ends is that of its nodes
weighted_row : (ls : List Link) (u : ℕ) (r : List (ℕ × ℕ)) → AllByRecursion (IsEnd ls u) r → r ≡ map (weighted ls u) (nodes_of r)
weighted_row ls u [] all = refl
weighted_row ls u (e ∷ r) all = ap (λ k. (e.0, k) ∷ r) all.0.1 ∙ ap (λ t. weighted ls u e.0 ∷ t) (weighted_row ls u r all.1)

least_first : (first second : Ordering) → is_lt (ordering_then first second) ≡ false → is_lt first ≡ false
least_first Less second h = h
least_first Equal second h = refl
least_first Greater second h = refl

by_node : (r : List (ℕ × ℕ)) → IsSorted end_cmp r → IsNonDecreasingBy (λ e. e.0) r
by_node r sorted =
    IsNonDecreasingBy-from_sort (λ e. e.0) r (λ k d low high.
    let x = get_or r k d in
    let y = get_or r (k + 1) d in
    least_first (nat_cmp y.0 x.0) (nat_cmp y.1 x.1) (sorted k d low high))

module _ (n : ℕ) (ls : List Link) (are : AreApart n ls) (network : Neighbours) (has : HasArcs n (arcs_of ls) network) where
  row_ends : (u : ℕ) → u < n → AllByRecursion (IsEnd ls u) (row network u)
  row_ends u low =
      recursion_from_All (IsEnd ls u) (row network u)
      (All-permutation (IsEnd ls u) (ends_from u (arcs_of ls)) (row network u) (has.rows u low)
      (All-from_recursion (IsEnd ls u) (ends_from u (arcs_of ls)) (ends_weighted u ls are.apart are.once)))

  row_times : (u w : ℕ) → u < n → times w (nodes_of (row network u)) ≡ times w (linked_with n ls u)
  row_times u w low =
      sum_by-IsPermutation (λ x. one_if (x == w)) (nodes_of (ends_from u (arcs_of ls))) (nodes_of (row network u)) (IsPermutation-map (λ e. e.0) (ends_from u (arcs_of ls)) (row network u) (has.rows u low))
      ∙ times_ends u w ls are.apart are.once
      ∙ sym (times_kept (are_linked ls u) w 0 n (omega arith) (λ high. unlinked_past n u w ls are.within (omega arith)))

  row_nodes : (u : ℕ) → u < n → nodes_of (row network u) ≡ linked_with n ls u
  row_nodes u low =
      ascending_same (nodes_of (row network u)) (linked_with n ls u)
      (ascends (λ e. e.0) (row network u) (by_node (row network u) (has.rising u low)))
      (kept_ascends (are_linked ls u) 0 n) (λ w. row_times u w low)

  row_is : (u : ℕ) → u < n → row network u ≡ neighbours_of n ls u
  row_is u low = weighted_row ls u (row network u) (row_ends u low) ∙ ap (map (weighted ls u)) (row_nodes u low)

  pub network_is : network ≡ network_of n ls
  network_is =
      ext_get_or [] network (network_of n ls) (has.count ∙ sym (length-map-range_with_len (neighbours_of n ls) 0 n))
      (λ u low. let inside : u < n = rw has.count at low in row_is u inside ∙ sym (get_or-map-range_with_len (neighbours_of n ls) 0 n u u [] inside (omega arith)))
