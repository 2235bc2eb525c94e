-- The checks on the ends of links, one after another.
use Rattle.std.proofs.Common.{◌≡◌, ℕ, Bool, true, false, List, [], ◌∷◌, ◌||◌, length, nat_lt, Result, Ok, Err, refl, sym, ap, ◌∙◌, map, if◌then◌else◌}
use Rattle.std.specs.List.{list_any}
use Rattle.std.proofs.lemmas.List.{length-map}
use Rattle.std.proofs.lemmas.List.Elements.{filter_agree}
use Rattle.link_net.specs.declared.fault.NetFault.{NetFault}
use Rattle.link_net.specs.declared.fault.NetFault.TheVariants.{SelfLink, LinkTwice, TooManyLinks, TooManyNeighbours}
use Rattle.link_net.specs.Limits.{most_links}
use Rattle.link_net.specs.Neighbours.{Neighbours, numbers_below}
use Rattle.link_net.specs.Links.{is_self_link, has_link_twice, joins, are_linked, linked_with, network_of}
use Rattle.link_net.specs.Reading.{and_then, sound, is_crowded}
use Rattle.link_net.specs.Tables.{network_in, settled}
use Rattle.link_net.specs.Arcs.{Arc}
use Rattle.link_net.proofs.LinkSteps.{Half}
use Rattle.link_net.proofs.Ranges.{any_agrees}

module _ (n : ℕ) (links : List Arc) (straight : list_any is_self_link links ≡ false) (once : has_link_twice links ≡ false) (few : nat_lt most_links (length links) ≡ false) where
  pub at_crowded : is_crowded n links ≡ true → network_in n links ≡ Err TooManyNeighbours
  at_crowded crowded = rw (straight, once, few, crowded)

  pub at_fine : is_crowded n links ≡ false → network_in n links ≡ Ok (network_of n links)
  at_fine sparse = rw (straight, once, few, sparse)

-- the checks do not look at weights
self_settled : (links : List Half) → list_any is_self_link (map settled links) ≡ list_any is_self_link links
self_settled [] = refl
self_settled (l ∷ ls) = ap (λ r. is_self_link l || r) (self_settled ls)

joins_settled : (u w : ℕ) (links : List Half) → are_linked (map settled links) u w ≡ are_linked links u w
joins_settled u w [] = refl
joins_settled u w (l ∷ ls) = ap (λ r. joins u w l || r) (joins_settled u w ls)

pub twice_settled : (links : List Half) → has_link_twice (map settled links) ≡ has_link_twice links
twice_settled [] = refl
twice_settled (l ∷ ls) = rw (joins_settled l.0 l.1 ls, twice_settled ls)

pub linked_settled : (n : ℕ) (links : List Half) (u : ℕ) → linked_with n (map settled links) u ≡ linked_with n links u
linked_settled n links u = filter_agree (are_linked (map settled links) u) (are_linked links u) (λ w. joins_settled u w links) (numbers_below n)

crowded_settled : (n : ℕ) (links : List Half) → is_crowded n (map settled links) ≡ is_crowded n links
crowded_settled n links = any_agrees _ _ 0 n (λ u low high. ap (λ ws. nat_lt 4096 (length ws)) (linked_settled n links u))

-- the checks, at the answers of their tests
fused : (a b c d : Bool) (ls : List Half)
    → (if a then Err SelfLink else if b then Err LinkTwice else if c then Err TooManyLinks else if d then Err TooManyNeighbours else Ok (map settled ls))
    ≡ and_then (if a then Err SelfLink else if b then Err LinkTwice else if c then Err TooManyLinks else if d then Err TooManyNeighbours else Ok ls) (λ ms. Ok (map settled ms))
fused true b c d ls = refl
fused false true c d ls = refl
fused false false true d ls = refl
fused false false false true ls = refl
fused false false false false ls = refl

kept : (a b c d : Bool) (ls ms : List Half)
    → (if a then Err SelfLink else if b then Err LinkTwice else if c then Err TooManyLinks else if d then Err TooManyNeighbours else Ok ls) ≡ Ok ms → ms ≡ ls
kept true b c d ls ms h = cc
kept false true c d ls ms h = cc
kept false false true d ls ms h = cc
kept false false false true ls ms h = cc
kept false false false false ls ms h = cc

sound_settled : (n : ℕ) (links : List Half) → sound n (map settled links) ≡ and_then (sound n links) (λ ms. Ok (map settled ms))
sound_settled n links =
    rw (self_settled links, twice_settled links, length-map links settled, crowded_settled n links)
    (fused (list_any is_self_link links) (has_link_twice links) (nat_lt most_links (length links)) (is_crowded n links) links)

sound_same : (n : ℕ) (links ms : List Half) → sound n links ≡ Ok ms → ms ≡ links
sound_same n links ms h = kept (list_any is_self_link links) (has_link_twice links) (nat_lt most_links (length links)) (is_crowded n links) links ms h

-- what the checks on links with settled weights say of the links
pub refused : (n : ℕ) (links : List Half) (fault : NetFault) → network_in n (map settled links) ≡ Err fault → sound n links ≡ Err fault
refused n links fault h = at (sound n links) (rw (sound_settled n links) at h) where
  at : (o : Result (List Half) NetFault) → and_then (and_then o (λ ms. Ok (map settled ms))) (λ ls. Ok (network_of n ls)) ≡ Err fault → o ≡ Err fault
  at (Ok ms) e = cc
  at (Err other) e = let same : other ≡ fault = cc in ap Err same

pub accepted : (n : ℕ) (links : List Half) (net : Neighbours) → network_in n (map settled links) ≡ Ok net → (sound n links ≡ Ok links) × (network_of n (map settled links) ≡ net)
accepted n links net h = at (sound n links) refl (rw (sound_settled n links) at h) where
  at : (o : Result (List Half) NetFault) → sound n links ≡ o → and_then (and_then o (λ ms. Ok (map settled ms))) (λ ls. Ok (network_of n ls)) ≡ Ok net
      → (sound n links ≡ Ok links) × (network_of n (map settled links) ≡ net)
  at (Err other) is e = cc
  at (Ok ms) is e =
      let same : ms ≡ links = sound_same n links ms is in
      (is ∙ ap Ok same, ap (λ ls. network_of n (map settled ls)) (sym same) ∙ inner e) where
        inner : ◌≡◌ {A = Result Neighbours NetFault} (Ok (network_of n (map settled ms))) (Ok net) → network_of n (map settled ms) ≡ net
        inner f = cc
