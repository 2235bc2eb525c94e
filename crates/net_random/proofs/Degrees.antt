-- How many neighbours nodes have that begin so many links.
use Rattle.std.proofs.Common.{◌≡◌, ℕ, ◌<◌, ◌≤◌, ◌==◌, true, false, List, [], ◌∷◌, length, refl, ap, sym, ◌∙◌, inl, inr, arith, suc}
use Rattle.std.specs.List.{list_any, filter}
use Rattle.std.proofs.lemmas.Bool.{cases_Bool}
use Rattle.std.proofs.lemmas.Bool.Decides.{nat_tests}
use Rattle.std.proofs.lemmas.List.{length-map}
use Rattle.std.proofs.lemmas.List.FromFn.{get_or-map-range_with_len}
use Rattle.link_net.specs.Links.{AllWithin, is_self_link, has_link_twice, joins, are_linked, linked_with, neighbours_of, network_of, weight_of}
use Rattle.link_net.specs.Neighbours.{numbers_below, degree}
use Rattle.net_text.specs.Listing.{Link}
use Rattle.net_random.specs.declared.random_network.RandomNetwork.{RandomNetwork}
use Rattle.net_random.specs.RandomNetworks.{AreSimpleLinks, IsOutcome, starts, ring_links}
use Rattle.net_random.proofs.Counting.{filter_same, either_is, once_in}
use Rattle.net_random.proofs.Changing.{joined_alike}
use Rattle.net_random.proofs.Ring.{ring_count, ring_begun}

-- links that begin at u, by where links begin
begun_starts : (u : ℕ) (ls : List Link) → length (filter (λ l. l.0 == u) ls) ≡ length (filter (λ x. x == u) (starts ls))
begun_starts u [] = refl
begun_starts u (l ∷ ls) =
    elim (cases_Bool (l.0 == u)) [
      | inl here ↦ rw here (ap (λ m. suc m) (begun_starts u ls))
      | inr other ↦ rw other (begun_starts u ls)
    ]

-- a link that begins at u joins it with one node
joined_once : (n u : ℕ) (l : Link) → (l.0 == u) ≡ true → is_self_link l ≡ false → l.1 < n → length (filter (λ w. joins u w l) (numbers_below n)) ≡ 1
joined_once n u l begins apart low =
    ap length (filter_same (λ w. joins u w l) (λ w. l.1 == w) 0 n (λ w a b. grind (arith, nat_tests)))
    ∙ once_in l.1 0 n (omega arith) (omega arith)

module _ (n u : ℕ) where
  -- a node has as many neighbours as links begin at it, or more
  begun_linked : (ls : List Link) → AllWithin n ls → list_any is_self_link ls ≡ false → has_link_twice ls ≡ false → length (filter (λ l. l.0 == u) ls) ≤ length (linked_with n ls u)
  begun_linked [] within apart once = omega arith
  begun_linked (l ∷ ls) within apart once =
      let first : is_self_link l ≡ false = grind arith in
      let others : list_any is_self_link ls ≡ false = grind arith in
      let new : are_linked ls l.0 l.1 ≡ false = grind arith in
      let rest : has_link_twice ls ≡ false = grind arith in
      let before = begun_linked ls within.1 others rest in
      let both = either_is (λ w. joins u w l) (λ w. are_linked ls u w) (λ w h. joined_alike u w l ls h ∙ new) (numbers_below n) in
      elim (cases_Bool (l.0 == u)) [
        | inl begins ↦ let one = joined_once n u l begins first within.0.1 in rw begins (omega arith)
        | inr other ↦ rw other (omega arith)
      ]

degree_is : (n u : ℕ) (ls : List Link) → u < n → degree (network_of n ls) u ≡ length (linked_with n ls u)
degree_is n u ls low =
    ap length (get_or-map-range_with_len (neighbours_of n ls) 0 n u u [] low (omega arith))
    ∙ length-map (linked_with n ls u) (λ w. (w, weight_of ls u w))

length_starts : (ls : List Link) → length (starts ls) ≡ length ls
length_starts ls = length-map ls (λ l. l.0)

-- where links begin as those of a ring do, so many begin at each node
begins_near : (n near u : ℕ) (ls : List Link) → starts ls ≡ starts (ring_links n near) → u < n → length (filter (λ l. l.0 == u) ls) ≡ near
begins_near n near u ls begin low = begun_starts u ls ∙ ap (λ xs. length (filter (λ x. x == u) xs)) begin ∙ sym (begun_starts u (ring_links n near)) ∙ ring_begun n near u low

-- simple links that begin where those of a ring do make a small world
pub small_world_has : (n near rewire of : ℕ) (ls : List Link) → AreSimpleLinks n ls → starts ls ≡ starts (ring_links n near) → (rewire ≡ 0 → ls ≡ ring_links n near) → IsOutcome (RandomNetwork.SmallWorld n near rewire of) ls
small_world_has n near rewire of ls simple begin kept = record {
  count = sym (length_starts ls) ∙ ap length begin ∙ length_starts (ring_links n near) ∙ ring_count n near;
  simple = simple;
  back = tt;
  degrees = λ u low.
      let begun = begins_near n near u ls begin low in
      let linked = begun_linked n u ls simple.within simple.apart simple.once in
      let is = degree_is n u ls low in
      omega arith;
  connected = tt;
  begun = λ u low. begins_near n near u ls begin low;
  ring = (begin, kept);
}
