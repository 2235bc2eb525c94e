-- What the reader's definition gives for the document of a network.
use Rattle.std.proofs.Common.{◌≡◌, ℕ, ◌-◌, ◌≤◌, ℤ, pos, Bool, true, false, ◌||◌, ◌==◌, nat_lt, List, [], ◌∷◌, map, length, Some, Ok, Err, refl, ap, inl, inr, arith, if◌then◌else◌, le-leb}
use Rattle.std.specs.Str.{IsUtf8}
use Rattle.std.specs.List.{list_any}
use Rattle.std.proofs.lemmas.Str.{is_utf8-from_IsUtf8}
use Rattle.std.proofs.lemmas.Bool.{cases_Bool}
use Rattle.std.proofs.lemmas.Bool.Decides.{nat_tests}
use Rattle.std.proofs.lemmas.List.{length-map}
use Rattle.std.proofs.lemmas.List.Elements.{filter_agree}
use Rattle.toml.specs.Data.{items_depth}
use Rattle.toml.specs.View.{items_of}
use Rattle.toml.specs.Parse.{parse_document}
use Rattle.link_net.specs.declared.fault.NetFault.TheVariants.{SelfLink, LinkTwice, TooManyLinks, TooManyNeighbours}
use Rattle.link_net.specs.declared.field_set.FieldSet.{FieldSet}
use Rattle.link_net.specs.Limits.{most_nodes, most_weight, most_links, most_neighbours}
use Rattle.link_net.specs.Neighbours.{numbers_below}
use Rattle.link_net.specs.Links.{AllWithin, network_of, is_self_link, has_link_twice, joins, are_linked, linked_with}
use Rattle.link_net.specs.Document.{link_of, links_in, pairs_of, sets_of}
use Rattle.link_net.specs.Reading.{reading_of, sound, is_crowded, number_in, all_placed, all_weighed, description_in, description_of}
use Rattle.net_text.specs.Listing.{Link}
use Rattle.net_text.specs.Written.{link_data, pair_data, sets_members, AllWeights, network_document}

-- a link as the document has it, and one with placed ends
abbrev raw : Link → ℤ × ℤ × ℤ
raw l = (pos l.0, pos l.1, pos l.2)

abbrev half : Link → ℕ × ℕ × ℤ
half l = (l.0, l.1, pos l.2)

-- the links of the document
one_link : (l : Link) → link_of (link_data l) ≡ Some (raw l)
one_link l =
    elim (cases_Bool (l.2 == 1)) [
      | inl one ↦ let is : l.2 ≡ 1 = grind (arith, nat_tests) in rw is refl
      | inr other ↦ rw other refl
    ]

all_links : (ls : List Link) → links_in (items_of (map link_data ls)) ≡ Some (map raw ls)
all_links [] = refl
all_links (l ∷ ls) = rw (one_link l, all_links ls) refl

-- the checks on numbers
fits : (low high k : ℕ) → low ≤ k → k ≤ high → number_in low high (pos k) ≡ Some k
fits low high k a b = rw (le-leb low k a, le-leb k high b) refl

ends : (n : ℕ) (ls : List Link) → 1 ≤ n → AllWithin n ls → all_placed (n - 1) (map raw ls) ≡ Some (map half ls)
ends n [] some all = refl
ends n (l ∷ ls) some all =
    rw (fits 0 (n - 1) l.0 (omega arith) (omega (arith, all.0.0)), fits 0 (n - 1) l.1 (omega arith) (omega (arith, all.0.1)), ends n ls some all.1) refl

weights : (ls : List Link) → AllWeights ls → all_weighed (map half ls) ≡ Some ls
weights [] all = refl
weights (l ∷ ls) all = rw (fits 0 most_weight l.2 (omega arith) all.0, weights ls all.1) refl

-- the checks do not look at weights
self_half : (ls : List Link) → list_any is_self_link (map half ls) ≡ list_any is_self_link ls
self_half [] = refl
self_half (l ∷ ls) = ap (λ r. is_self_link l || r) (self_half ls)

joins_half : (u w : ℕ) (ls : List Link) → are_linked (map half ls) u w ≡ are_linked ls u w
joins_half u w [] = refl
joins_half u w (l ∷ ls) = ap (λ r. joins u w l || r) (joins_half u w ls)

twice_half : (ls : List Link) → has_link_twice (map half ls) ≡ has_link_twice ls
twice_half [] = refl
twice_half (l ∷ ls) = rw (joins_half l.0 l.1 ls, twice_half ls)

linked_half : (n : ℕ) (ls : List Link) (u : ℕ) → linked_with n (map half ls) u ≡ linked_with n ls u
linked_half n ls u = filter_agree (are_linked (map half ls) u) (are_linked ls u) (λ w. joins_half u w ls) (numbers_below n)

any_same : (p q : ℕ → Bool) (same : (u : ℕ) → p u ≡ q u) (xs : List ℕ) → list_any p xs ≡ list_any q xs
any_same p q same [] = refl
any_same p q same (x ∷ xs) = rw (same x, any_same p q same xs)

crowded_half : (n : ℕ) (ls : List Link) → is_crowded n (map half ls) ≡ is_crowded n ls
crowded_half n ls = any_same _ _ (λ u. ap (λ ws. nat_lt most_neighbours (length ws)) (linked_half n ls u)) (numbers_below n)

fused : (a b c d : Bool) (ls : List Link)
    → (if a then Err SelfLink else if b then Err LinkTwice else if c then Err TooManyLinks else if d then Err TooManyNeighbours else Ok ls) ≡ Ok ls
    → (if a then Err SelfLink else if b then Err LinkTwice else if c then Err TooManyLinks else if d then Err TooManyNeighbours else Ok (map half ls)) ≡ Ok (map half ls)
fused true b c d ls h = cc
fused false true c d ls h = cc
fused false false true d ls h = cc
fused false false false true ls h = cc
fused false false false false ls h = refl

sound_half : (n : ℕ) (ls : List Link) → sound n ls ≡ Ok ls → sound n (map half ls) ≡ Ok (map half ls)
sound_half n ls h =
    rw (self_half ls, twice_half ls, length-map ls half, crowded_half n ls)
    (fused (list_any is_self_link ls) (has_link_twice ls) (nat_lt most_links (length ls)) (is_crowded n ls) ls h)

-- how deep the document is
pub links_depth : (ls : List Link) → items_depth (items_of (map link_data ls)) ≤ 1
links_depth [] = omega arith
links_depth (l ∷ ls) =
    elim (cases_Bool (l.2 == 1)) [
      | inl one ↦ rw one (grind (arith, links_depth ls))
      | inr other ↦ rw other (grind (arith, links_depth ls))
    ]

-- the pairs and the field sets of the document
all_pairs : (ps : List (ℤ × ℤ)) → pairs_of (items_of (map pair_data ps)) ≡ Some ps
all_pairs [] = refl
all_pairs (p ∷ ps) = rw (all_pairs ps) refl

all_sets : (ss : List FieldSet) → sets_of (sets_members ss) ≡ Some ss
all_sets [] = refl
all_sets (s ∷ ss) = rw (all_pairs s.pairs, all_sets ss) refl

pub pairs_depth : (ps : List (ℤ × ℤ)) → items_depth (items_of (map pair_data ps)) ≤ 1
pairs_depth [] = omega arith
pairs_depth (p ∷ ps) = grind (arith, pairs_depth ps)

module _ (n : ℕ) (ls : List Link) (phase : ℕ) (sets : List FieldSet) where
  module _ (some : 1 ≤ n) (small : n ≤ most_nodes) (within : AllWithin n ls) (is_sound : sound n ls ≡ Ok ls) (words : AllWeights ls) (low : phase ≤ 2) where
    described : description_of (record { nodes = pos n; links = map raw ls; phase = pos phase; sets = sets }) ≡ Ok (record { network = network_of n ls; phase = phase; sets = sets })
    described = rw (fits 1 most_nodes n some small, ends n ls some within, sound_half n ls is_sound, fits 0 2 phase (omega arith) low, weights ls words) refl

    in_document : description_in (network_document n ls phase sets) ≡ Ok (record { network = network_of n ls; phase = phase; sets = sets })
    in_document = at sets refl where
      at : (ss : List FieldSet) → ss ≡ sets → description_in (network_document n ls phase ss) ≡ Ok (record { network = network_of n ls; phase = phase; sets = sets })
      at [] same = rw (all_links ls, same) described
      at (s ∷ ss) same = rw (all_links ls, all_sets (s ∷ ss), same) described

    pub read_back : (bytes : List ℕ) → IsUtf8 bytes → parse_document bytes ≡ Some (network_document n ls phase sets)
        → reading_of bytes ≡ Ok (record { network = network_of n ls; phase = phase; sets = sets })
    read_back bytes utf8 parsed = rw (is_utf8-from_IsUtf8 bytes utf8, parsed) in_document
