-- What a network asks of links does not look at their weights.
use Rattle.std.proofs.Common.{◌≡◌, ◌≤◌, ℕ, Bool, true, false, ◌||◌, nat_lt, List, [], ◌∷◌, ◌++◌, map, length, Option, Some, None, Ok, Err, refl, ap, sym, ◌∙◌, if◌then◌else◌}
use Rattle.std.specs.List.{list_any}
use Rattle.std.proofs.lemmas.List.{length-map}
use Rattle.std.proofs.lemmas.List.Elements.{filter_agree}
use Rattle.link_net.specs.declared.fault.NetFault.TheVariants.{SelfLink, LinkTwice, TooManyLinks, TooManyNeighbours}
use Rattle.link_net.specs.Limits.{most_links, most_neighbours}
use Rattle.link_net.specs.Neighbours.{numbers_below}
use Rattle.link_net.specs.Links.{AllWithin, is_self_link, has_link_twice, joins, are_linked, linked_with}
use Rattle.link_net.specs.Reading.{sound, is_crowded}
use Rattle.net_text.specs.Listing.{Link, IsListing}
use Rattle.net_random.specs.declared.weight_draw.WeightDraw.{WeightDraw}
use Rattle.net_random.specs.RandomNetworks.{AreSimpleLinks}
use Rattle.net_random.specs.Weights.{ends, AllBetween, HasWeights}

-- a link with weight 0
abbrev bare : Link → Link
bare l = (l.0, l.1, 0)

abbrev filled : ℕ × ℕ → Link
filled e = (e.0, e.1, 0)

bare_ends : (ls : List Link) → map bare ls ≡ map filled (map ends ls)
bare_ends [] = refl
bare_ends (l ∷ ls) = ap (λ r. bare l ∷ r) (bare_ends ls)

self_bare : (ls : List Link) → list_any is_self_link (map bare ls) ≡ list_any is_self_link ls
self_bare [] = refl
self_bare (l ∷ ls) = ap (λ r. is_self_link l || r) (self_bare ls)

joins_bare : (u w : ℕ) (ls : List Link) → are_linked (map bare ls) u w ≡ are_linked ls u w
joins_bare u w [] = refl
joins_bare u w (l ∷ ls) = ap (λ r. joins u w l || r) (joins_bare u w ls)

twice_bare : (ls : List Link) → has_link_twice (map bare ls) ≡ has_link_twice ls
twice_bare [] = refl
twice_bare (l ∷ ls) = rw (joins_bare l.0 l.1 ls, twice_bare ls)

linked_bare : (n : ℕ) (ls : List Link) (u : ℕ) → linked_with n (map bare ls) u ≡ linked_with n ls u
linked_bare n ls u = filter_agree (are_linked (map bare ls) u) (are_linked ls u) (λ w. joins_bare u w ls) (numbers_below n)

any_same : (p q : ℕ → Bool) (same : (u : ℕ) → p u ≡ q u) (xs : List ℕ) → list_any p xs ≡ list_any q xs
any_same p q same [] = refl
any_same p q same (x ∷ xs) = rw (same x, any_same p q same xs)

crowded_bare : (n : ℕ) (ls : List Link) → is_crowded n (map bare ls) ≡ is_crowded n ls
crowded_bare n ls = any_same _ _ (λ u. ap (λ ws. nat_lt most_neighbours (length ws)) (linked_bare n ls u)) (numbers_below n)

fused : (a b c d : Bool) (ls ms : List Link)
    → (if a then Err SelfLink else if b then Err LinkTwice else if c then Err TooManyLinks else if d then Err TooManyNeighbours else Ok ls) ≡ Ok ls
    → (if a then Err SelfLink else if b then Err LinkTwice else if c then Err TooManyLinks else if d then Err TooManyNeighbours else Ok ms) ≡ Ok ms
fused true b c d ls ms h = cc
fused false true c d ls ms h = cc
fused false false true d ls ms h = cc
fused false false false true ls ms h = cc
fused false false false false ls ms h = refl

module _ (ls ms : List Link) (same : map ends ms ≡ map ends ls) where
  same_bare : map bare ms ≡ map bare ls
  same_bare = bare_ends ms ∙ ap (map filled) same ∙ sym (bare_ends ls)

  self_same : list_any is_self_link ms ≡ list_any is_self_link ls
  self_same = sym (self_bare ms) ∙ ap (list_any is_self_link) same_bare ∙ self_bare ls

  twice_same : has_link_twice ms ≡ has_link_twice ls
  twice_same = sym (twice_bare ms) ∙ ap has_link_twice same_bare ∙ twice_bare ls

  crowded_same : (n : ℕ) → is_crowded n ms ≡ is_crowded n ls
  crowded_same n = sym (crowded_bare n ms) ∙ ap (is_crowded n) same_bare ∙ crowded_bare n ls

  pub length_same : length ms ≡ length ls
  length_same = sym (length-map ms bare) ∙ ap length same_bare ∙ length-map ls bare

  pub sound_same : (n : ℕ) → sound n ls ≡ Ok ls → sound n ms ≡ Ok ms
  sound_same n h =
      rw (self_same, twice_same, length_same, crowded_same n)
      (fused (list_any is_self_link ls) (has_link_twice ls) (nat_lt most_links (length ls)) (is_crowded n ls) ls ms h)

within_bare : (n : ℕ) (ls : List Link) → AllWithin n ls → AllWithin n (map bare ls)
within_bare n [] all = all
within_bare n (l ∷ ls) all = (all.0, within_bare n ls all.1)

within_whole : (n : ℕ) (ls : List Link) → AllWithin n (map bare ls) → AllWithin n ls
within_whole n [] all = all
within_whole n (l ∷ ls) all = (all.0, within_whole n ls all.1)

-- links with the ends of those of a listing make a listing
pub listing_same : (n : ℕ) (ls ms : List Link) → map ends ms ≡ map ends ls → IsListing (record { nodes = n; links = ls }) → IsListing (record { nodes = n; links = ms })
listing_same n ls ms same is = record {
  some = is.some;
  small = is.small;
  within = within_whole n ms (rw (same_bare ls ms same) (within_bare n ls is.within));
  is_sound = sound_same ls ms same n is.is_sound;
}

-- each link joins two different nodes below n, and no two links join the same nodes
pub record AreApart (n : ℕ) (links : List Link) : Type 0 where
  pub within : AllWithin n links
  pub apart : list_any is_self_link links ≡ false
  pub once : has_link_twice links ≡ false

-- links with the ends of such ones are such ones, too
pub apart_same : (n : ℕ) (ls ms : List Link) → map ends ms ≡ map ends ls → AreApart n ls → AreApart n ms
apart_same n ls ms same are = record {
  within = within_whole n ms (rw (same_bare ls ms same) (within_bare n ls are.within));
  apart = self_same ls ms same ∙ are.apart;
  once = twice_same ls ms same ∙ are.once;
}

pub simple_apart : (n : ℕ) (ls : List Link) → AreSimpleLinks n ls → AreApart n ls
simple_apart n ls simple = record { within = simple.within; apart = simple.apart; once = simple.once }

-- whether weights are drawn or not
pub weighted_apart : (n : ℕ) (weights : Option WeightDraw) (ls ms : List Link) → HasWeights weights ls ms → AreApart n ls → AreApart n ms
weighted_apart n None ls ms same are = rw same are
weighted_apart n (Some w) ls ms has are = apart_same n ls ms has.0 are

pub weighted_length : (weights : Option WeightDraw) (ls ms : List Link) → HasWeights weights ls ms → length ms ≡ length ls
weighted_length None ls ms same = ap length same
weighted_length (Some w) ls ms has = length_same ls ms has.0

-- one link more
pub between_more : (low high : ℕ) (ls : List Link) (l : Link) → AllBetween low high ls → low ≤ l.2 → l.2 ≤ high → AllBetween low high (ls ++ l ∷ [])
between_more low high [] l all a b = ((a, b), tt)
between_more low high (k ∷ ls) l all a b = (all.0, between_more low high ls l all.1 a b)
