-- Rows of neighbours as the links of a network file, and why a network file cannot say them.
use Rattle.std.specs.Prelude.{◌≡◌, ◌≢◌, ℕ, ◌+◌, nat_lt, List, [], ◌∷◌, ◌++◌, length, Ok, Err, if◌then◌else◌}
use Rattle.link_net.specs.Links.{network_of}
use Rattle.link_net.specs.Neighbours.{Neighbours}
use Rattle.net_text.specs.declared.fault.RowsFault.{RowsFault}
use Rattle.net_text.specs.declared.fault.RowsFault.TheVariants.{Links, OneWay, Memory}
use Rattle.net_text.specs.Listing.{Link, Listing, listing_of}

-- the links of node u to those of its neighbours whose numbers are not lower: each link of rows from the lower of its ends
abbrev pub links_up : ℕ → List (ℕ × ℕ) → List Link
links_up u [] = []
links_up u (a ∷ row) = if nat_lt a.0 u then links_up u row else (u, a.0, a.1) ∷ links_up u row

-- those of all nodes, where the first row is that of node u
abbrev pub links_from : ℕ → Neighbours → List Link
links_from u [] = []
links_from u (row ∷ rows) = links_up u row ++ links_from (u + 1) rows

-- the links of rows, each once
abbrev pub row_links : Neighbours → List Link
row_links rows = links_from 0 rows

-- Why no network file has these rows: their links, each once, are no links of a network file, for this reason; or they are, and the rows of
-- their network are others, since a neighbour lacks the link, has it with another weight, or stands at another slot.
abbrev pub IsRowsFault : Neighbours → RowsFault → Type 0
IsRowsFault rows (Links fault) = listing_of (length rows) (row_links rows) ≡ Err fault
IsRowsFault rows OneWay = (l : Listing) × (listing_of (length rows) (row_links rows) ≡ Ok l) × (network_of l.nodes l.links ≢ rows)
IsRowsFault rows Memory = Unit {0}
