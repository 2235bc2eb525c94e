-- Internal: the links of a network in the order in which they are listed. No public clause cites it.
use Rattle.std.specs.Prelude.{ℕ, List, [], ◌∷◌, ◌++◌, nat_lt, if◌then◌else◌}
use Rattle.link_net.specs.Neighbours.{Neighbours, row}
use Rattle.net_text.specs.Listing.{Link}

-- the links from u to those of its neighbours that are above it
abbrev pub links_up : ℕ → List (ℕ × ℕ) → List Link
links_up u [] = []
links_up u (a ∷ ends) = if nat_lt u a.0 then (u, a.0, a.1) ∷ links_up u ends else links_up u ends

-- the same from each of these nodes
abbrev pub links_from : Neighbours → List ℕ → List Link
links_from network [] = []
links_from network (u ∷ us) = links_up u (row network u) ++ links_from network us
