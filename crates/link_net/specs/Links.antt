-- Links between numbered nodes, and the network that they make. A link is its two ends and its weight.
use Rattle.std.specs.Prelude.{ℕ, ◌==◌, ◌<◌, Bool, false, ◌&&◌, ◌||◌, List, [], ◌∷◌, map, filter, option_map}
use Rattle.std.specs.List.{list_any, find, AllByRecursion}
use Rattle.std.specs.Option.{unwrap_or}
use Rattle.link_net.specs.Neighbours.{Neighbours, numbers_below}

-- the link joins the two nodes, either way round
abbrev pub joins : {W : Type 0} → ℕ → ℕ → ℕ × ℕ × W → Bool
joins u w l = (u == l.0 && w == l.1) || (u == l.1 && w == l.0)

-- the link joins a node with itself
abbrev pub is_self_link : {W : Type 0} → ℕ × ℕ × W → Bool
is_self_link l = l.0 == l.1

-- some two links join the same two nodes, whatever their weights
abbrev pub has_link_twice : {W : Type 0} → List (ℕ × ℕ × W) → Bool
has_link_twice [] = false
has_link_twice (l ∷ ls) = list_any (joins l.0 l.1) ls || has_link_twice ls

-- some link joins the two nodes
abbrev pub are_linked : {W : Type 0} → List (ℕ × ℕ × W) → ℕ → ℕ → Bool
are_linked links u w = list_any (joins u w) links

-- the nodes that are linked with u, by rising number
abbrev pub linked_with : {W : Type 0} → ℕ → List (ℕ × ℕ × W) → ℕ → List ℕ
linked_with n links u = filter (are_linked links u) (numbers_below n)

-- the weight of the link that joins the two nodes, and 0 where none does
abbrev pub weight_of : List (ℕ × ℕ × ℕ) → ℕ → ℕ → ℕ
weight_of links u w = unwrap_or (option_map (λ l. l.2) (find (joins u w) links)) 0

-- the nodes that are linked with u, by rising number, each with the weight of the link
abbrev pub neighbours_of : ℕ → List (ℕ × ℕ × ℕ) → ℕ → List (ℕ × ℕ)
neighbours_of n links u = map (λ w. (w, weight_of links u w)) (linked_with n links u)

-- the network with n nodes and these links
abbrev pub network_of : ℕ → List (ℕ × ℕ × ℕ) → Neighbours
network_of n links = map (neighbours_of n links) (numbers_below n)

-- both ends of each link are below n
abbrev pub AllWithin : {W : Type 0} → ℕ → List (ℕ × ℕ × W) → Type 0
AllWithin n links = AllByRecursion (λ l. (l.0 < n) × (l.1 < n)) links
