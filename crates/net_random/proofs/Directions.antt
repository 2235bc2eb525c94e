-- Both directions of links.
use Rattle.std.proofs.Common.{◌≡◌, ℕ, ◌*◌, List, [], ◌∷◌, length, refl, arith}
use Rattle.link_net.specs.Arcs.{arcs_of}
use Rattle.link_net.specs.Links.{AllWithin}
use Rattle.net_text.specs.Listing.{Link}

pub arcs_within : (n : ℕ) (ls : List Link) → AllWithin n ls → AllWithin n (arcs_of ls)
arcs_within n [] all = tt
arcs_within n (l ∷ ls) all = (all.0, ((all.0.1, all.0.0), arcs_within n ls all.1))

pub arcs_count : (ls : List Link) → length (arcs_of ls) ≡ 2 * length ls
arcs_count [] = refl
arcs_count (l ∷ ls) = omega (arith, arcs_count ls)
