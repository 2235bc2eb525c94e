-- The nodes and links that edges between named nodes make. A node's number is the place of its name.
use Rattle.std.specs.Prelude.{ℕ, List, [], ◌∷◌, map}
use Rattle.net_names.specs.Naming.{place_in, with_name}
use Rattle.import_lines.specs.Named.{NamedEdge}
use Rattle.import_lines.specs.declared.mention.Mention.{Mention}
use Rattle.import_links.specs.declared.placed.PlacedLink.{PlacedLink}

-- the names that a text names, in its order
abbrev pub names_of : List Mention → List (List ℕ)
names_of mentions = map (λ m. m.name.now) mentions

-- the names with those that are mentioned, each once, in the order of their first appearance
abbrev pub names_in : List (List ℕ) → List (List ℕ) → List (List ℕ)
names_in names [] = names
names_in names (m ∷ ms) = names_in (with_name names m) ms

-- the names with those of the ends of an edge, the first end before the second; a new one goes last
abbrev pub with_ends : List (List ℕ) → NamedEdge → List (List ℕ)
with_ends names e = with_name (with_name names e.first) e.second

-- the names with those of the ends of edges, edge by edge
abbrev pub names_with : List (List ℕ) → List NamedEdge → List (List ℕ)
names_with names [] = names
names_with names (e ∷ es) = names_with (with_ends names e) es

-- the link that an edge is, between the numbers of its ends
abbrev pub link_in : List (List ℕ) → NamedEdge → PlacedLink
link_in names e = record { link = (place_in names e.first, place_in names e.second, e.weight); line = e.line; exact = e.exact }

-- the links of edges whose ends are named one after another, after these names
abbrev pub links_with : List (List ℕ) → List NamedEdge → List PlacedLink
links_with names [] = []
links_with names (e ∷ es) = link_in (with_ends names e) e ∷ links_with (with_ends names e) es

-- the links that edges are, in their order, where the nodes have these names and then those of the edges
abbrev pub links_of : List (List ℕ) → List NamedEdge → List PlacedLink
links_of names edges = map (link_in (names_with names edges)) edges
