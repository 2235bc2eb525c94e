-- The links of a network, listed from each node to those above it, are a list of links of it.
use Rattle.std.proofs.Common.{◌≡◌, ℕ, ◌+◌, ◌<◌, ◌≤◌, ◌==◌, Bool, true, false, ◌&&◌, nat_lt, nat_le, List, [], ◌∷◌, ◌++◌, length, get_or, Option, Some, None, is_some, refl, ap, sym, ◌∙◌, inl, inr, arith, zero, suc}
use Rattle.std.specs.List.{list_any, sum_by, range_with_len, AllByRecursion}
use Rattle.std.specs.Option.{unwrap_or}
use Rattle.std.proofs.lemmas.Bool.{cases_Bool}
use Rattle.std.proofs.lemmas.Bool.Decides.{nat_tests}
use Rattle.std.proofs.lemmas.List.{length-map}
use Rattle.std.proofs.lemmas.List.Folds.{list_any-append}
use Rattle.std.proofs.lemmas.List.FromFn.{fill_by_all}
use Rattle.link_net.specs.Limits.{most_links, most_neighbours}
use Rattle.link_net.specs.Links.{AllWithin, is_self_link, has_link_twice, joins, are_linked, linked_with, weight_of, neighbours_of, network_of}
use Rattle.link_net.specs.Neighbours.{Neighbours, numbers_below, row, degree, neighbour, weight, IsNetwork}
use Rattle.link_net.specs.Reading.{is_crowded}
use Rattle.net_text.specs.Listing.{Link, IsListing}
use Rattle.net_initial.specs.Ahead.{links_up, links_from}
use Rattle.net_initial.proofs.Lookups.{entry, weighs, linked_weighs, weighs_back, weighs_from}
use Rattle.net_initial.proofs.Rebuilt.{Up, Below, entry_at, entry_stands, rebuilt}
use Rattle.net_initial.proofs.PairCounts.{shown_twice}

pub all-append : (P : Link → Type 0) (xs ys : List Link) → AllByRecursion P xs → AllByRecursion P ys → AllByRecursion P (xs ++ ys)
all-append P [] ys a b = b
all-append P (x ∷ xs) ys a b = (a.0, all-append P xs ys a.1 b)

none_of : (p : Link → Bool) (ls : List Link) → AllByRecursion (λ l. p l ≡ false) ls → list_any p ls ≡ false
none_of p [] h = refl
none_of p (l ∷ ls) h = rw h.0 (none_of p ls h.1)

-- what holds of each link up
pub all_up : (P : Link → Type 0) (u : ℕ) (ends : List (ℕ × ℕ)) → ((j : ℕ) → j < length ends → u < (get_or ends j (0, 0)).0 → P (u, (get_or ends j (0, 0)).0, (get_or ends j (0, 0)).1)) → AllByRecursion P (links_up u ends)
all_up P u [] h = tt
all_up P u (a ∷ ends) h =
    let rest = all_up P u ends (λ j low up. h (suc j) (omega arith) up) in
    elim (cases_Bool (nat_lt u a.0)) [
      | inl above ↦ let up : u < a.0 = grind (arith, nat_tests) in rw above (h 0 (omega arith) up, rest)
      | inr below ↦ rw below rest
    ]

pub all_from : (P : Link → Type 0) (net : Neighbours) (a k : ℕ)
    → ((u j : ℕ) → u < a + k → j < degree net u → u < neighbour net u j → P (u, neighbour net u j, weight net u j)) → AllByRecursion P (links_from net (range_with_len a k))
all_from P net a zero h = tt
all_from P net a (suc k) h =
    all-append P (links_up a (row net a)) (links_from net (range_with_len (a + 1) k))
    (all_up P a (row net a) (λ j low up. h a j (omega arith) low up))
    (all_from P net (a + 1) k (λ u j high low up. h u j (omega arith) low up))

-- the links up from a node, before links that join none of them again
once_up : (i : ℕ) (ends : List (ℕ × ℕ)) (rest : List Link) → Up ends
    → ((w : ℕ) → i < w → list_any (joins i w) rest ≡ false) → has_link_twice rest ≡ false → has_link_twice (links_up i ends ++ rest) ≡ false
once_up i [] rest up again once = once
once_up i (a ∷ ends) rest up again once =
    let tail : has_link_twice (links_up i ends ++ rest) ≡ false = once_up i ends rest (λ j k order low. up (suc j) (suc k) (omega arith) (omega arith)) again once in
    elim (cases_Bool (nat_lt i a.0)) [
      | inl above ↦
          let more : i < a.0 = grind (arith, nat_tests) in
          let none : list_any (joins i a.0) (links_up i ends) ≡ false =
          none_of (joins i a.0) (links_up i ends) (all_up (λ l. joins i a.0 l ≡ false) i ends (λ j low high.
          let later : a.0 < (get_or ends j (0, 0)).0 = up 0 (suc j) (omega arith) (omega arith) in
          apart i a.0 (get_or ends j (0, 0)).0 (get_or ends j (0, 0)).1 more later)) in
          rw (above, list_any-append (joins i a.0) (links_up i ends) rest, none, again a.0 more, tail) refl
      | inr below ↦ rw below tail
    ] where
      apart : (u w x y : ℕ) → u < w → w < x → joins u w (u, x, y) ≡ false
      apart u w x y p q = grind (arith, nat_tests)

module _ (net : Neighbours) (whole : IsNetwork net) where
  abbrev n : ℕ
  n = length net

  abbrev links : List Link
  links = links_from net (numbers_below n)

  up : (u : ℕ) → Up (row net u)
  up u i j order low = whole.rising u i j order low

  below : (u : ℕ) → Below n (row net u)
  below u j low = whole.within u j low

  -- the weight is the same from both ends
  back : (u w x : ℕ) → entry (row net u) w ≡ Some x → entry (row net w) u ≡ Some x
  back u w x h =
      let (j, low, is, weight_is) = entry_stands (row net u) w x h in
      turned j low is weight_is where
        turned : (j : ℕ) → j < degree net u → neighbour net u j ≡ w → weight net u j ≡ x → entry (row net w) u ≡ Some x
        turned j low is heavy =
            let (k, short, again, same) = whole.both_ways u j low in
            let found = entry_at (row net (neighbour net u j)) k (up (neighbour net u j)) short in
            rw (again, same, is, heavy) at found

  both : (u w : ℕ) → entry (row net u) w ≡ entry (row net w) u
  both u w = cases (entry (row net u) w) (entry (row net w) u) (back u w) (back w u) where
    cases : (o p : Option ℕ) → ((x : ℕ) → o ≡ Some x → p ≡ Some x) → ((x : ℕ) → p ≡ Some x → o ≡ Some x) → o ≡ p
    cases None None f g = refl
    cases None (Some x) f g = g x refl
    cases (Some x) p f g = sym (f x refl)

  alone : (u : ℕ) → entry (row net u) u ≡ None
  alone u = cases (entry (row net u) u) refl where
    cases : (o : Option ℕ) → entry (row net u) u ≡ o → o ≡ None
    cases None e = refl
    cases (Some x) e = let s = entry_stands (row net u) u x e in absurd (whole.apart u s.0 s.1 s.2)

  ordered : (u w : ℕ) → u < n → u ≤ w → weighs links u w ≡ entry (row net u) w
  ordered u w low order =
      weighs_from net u w 0 n order
      ∙ (let inside : (nat_le 0 u && nat_lt u (0 + n)) ≡ true = grind (arith, nat_tests) in
      elim (cases_Bool (nat_lt u w)) [
        | inl less ↦ rw (inside, less) refl
        | inr same ↦ let is : u ≡ w = grind (arith, nat_tests) in rw (inside, same) (sym (alone u) ∙ ap (entry (row net u)) is)
      ])

  -- the links have the network's weights
  weights : (u w : ℕ) → u < n → w < n → weighs links u w ≡ entry (row net u) w
  weights u w a b =
      elim (cases_Bool (nat_le u w)) [
        | inl order ↦ let le : u ≤ w = grind (arith, nat_tests) in ordered u w a le
        | inr order ↦ let le : w ≤ u = grind (arith, nat_tests) in weighs_back links u w ∙ ordered w u b le ∙ both w u
      ]

  row_is : (u : ℕ) → u < n → neighbours_of n links u ≡ row net u
  row_is u low =
      rebuilt n 0 (row net u) (are_linked links u) (weight_of links u) (up u) (λ j h. omega arith) (λ j h. let b = below u j h in omega arith)
      (λ w a b. linked_weighs links u w ∙ ap is_some (weights u w low (omega arith)))
      (λ w a b. ap (λ o. unwrap_or o 0) (weights u w low (omega arith)))

  pub network_is : network_of n links ≡ net
  network_is = sym (fill_by_all (neighbours_of n links) net n [] refl (λ u low. sym (row_is u low)))

  within : AllWithin n links
  within = all_from (λ l. (l.0 < n) × (l.1 < n)) net 0 n (λ u j high low more. (omega arith, below u j low))

  straight : list_any is_self_link links ≡ false
  straight = none_of is_self_link links (all_from (λ l. is_self_link l ≡ false) net 0 n (λ u j high low more. unlike u (neighbour net u j) more)) where
    unlike : (u w : ℕ) → u < w → (u == w) ≡ false
    unlike u w less = grind (arith, nat_tests)

  not_again : (i k w : ℕ) → i < w → list_any (joins i w) (links_from net (range_with_len (i + 1) k)) ≡ false
  not_again i k w more =
      linked_weighs (links_from net (range_with_len (i + 1) k)) i w
      ∙ ap is_some (weighs_from net i w (i + 1) k (omega arith))
      ∙ (let past : (nat_le (i + 1) i && nat_lt i ((i + 1) + k)) ≡ false = grind (arith, nat_tests) in rw past refl)

  once_from : (i k : ℕ) → has_link_twice (links_from net (range_with_len i k)) ≡ false
  once_from i zero = refl
  once_from i (suc k) = once_up i (row net i) (links_from net (range_with_len (i + 1) k)) (up i) (not_again i k) (once_from (i + 1) k)

  few : length links ≤ most_links
  few =
      let (k, bound, count) = whole.links in
      let twice = shown_twice n links within straight (once_from 0 n) in
      let same = ap (sum_by length) network_is in
      omega arith

  uncrowded : is_crowded n links ≡ false
  uncrowded = none_in 0 n (λ u low high. short u (omega arith)) where
    none_in : {p : ℕ → Bool} (a k : ℕ) → ((u : ℕ) → a ≤ u → u < a + k → p u ≡ false) → list_any p (range_with_len a k) ≡ false
    none_in a zero h = refl
    none_in a (suc k) h = rw (h a (omega arith) (omega arith)) (none_in (a + 1) k (λ u low high. h u (omega arith) (omega arith)))

    short : (u : ℕ) → u < n → nat_lt most_neighbours (length (linked_with n links u)) ≡ false
    short u low =
        let long : length (neighbours_of n links u) ≡ length (linked_with n links u) = length-map (linked_with n links u) _ in
        let same = ap length (row_is u low) in
        let few = whole.degrees u in
        let le : length (linked_with n links u) ≤ most_neighbours = omega arith in
        grind (arith, nat_tests)

  pub is_listing : IsListing (record { nodes = n; links = links })
  is_listing =
      let count = few in
      let less : nat_lt most_links (length links) ≡ false = grind (arith, nat_tests) in
      record {
        some = whole.some;
        small = whole.nodes;
        within = within;
        is_sound = rw (straight, once_from 0 n, less, uncrowded) refl;
      }
