-- Links that pass the tests.
use Rattle.std.proofs.Common.{◌≡◌, ℕ, Bool, true, false, nat_lt, List, [], ◌∷◌, length, Result, Ok, Err, refl, if◌then◌else◌, arith}
use Rattle.std.specs.List.{list_all, list_any}
use Rattle.std.proofs.lemmas.Bool.{and_parts}
use Rattle.std.proofs.lemmas.Bool.Decides.{nat_tests}
use Rattle.link_net.specs.declared.fault.NetFault.{NetFault}
use Rattle.link_net.specs.declared.fault.NetFault.TheVariants.{SelfLink, LinkTwice, TooManyLinks, TooManyNeighbours}
use Rattle.link_net.specs.Limits.{most_links}
use Rattle.link_net.specs.Links.{AllWithin, is_self_link, has_link_twice, network_of}
use Rattle.link_net.specs.Neighbours.{Neighbours}
use Rattle.link_net.specs.Reading.{and_then, sound, is_crowded}
use Rattle.link_net.specs.Tables.{network_in}
use Rattle.net_text.specs.Listing.{Link, is_within}

-- links whose ends pass the test are within
pub within_from_test : (n : ℕ) (ls : List Link) → list_all (is_within n) ls ≡ true → AllWithin n ls
within_from_test n [] h = tt
within_from_test n (l ∷ ls) h =
    let (here, rest) = and_parts (is_within n l) (list_all (is_within n) ls) h in
    let (first, second) = and_parts (nat_lt l.0 n) (nat_lt l.1 n) here in
    ((grind (arith, nat_tests), grind (arith, nat_tests)), within_from_test n ls rest)

-- four tests, none of which may pass
none_pass : (a b c d : Bool) (ls : List Link) (f : List Link → Result Neighbours NetFault) (x : Neighbours)
    → and_then (if a then Err SelfLink else if b then Err LinkTwice else if c then Err TooManyLinks else if d then Err TooManyNeighbours else Ok ls) f ≡ Ok x
    → (if a then Err SelfLink else if b then Err LinkTwice else if c then Err TooManyLinks else if d then Err TooManyNeighbours else Ok ls) ≡ Ok ls
none_pass true b c d ls f x h = cc
none_pass false true c d ls f x h = cc
none_pass false false true d ls f x h = cc
none_pass false false false true ls f x h = cc
none_pass false false false false ls f x h = refl

-- links that make a network are sound
pub sound_from_network : (n : ℕ) (ls : List Link) (x : Neighbours) → network_in n ls ≡ Ok x → sound n ls ≡ Ok ls
sound_from_network n ls x h =
    none_pass (list_any is_self_link ls) (has_link_twice ls) (nat_lt most_links (length ls)) (is_crowded n ls) ls (λ ks. Ok (network_of n ks)) x h
