-- Lists of links, and what their network file describes.
use Rattle.std.specs.Prelude.{◌≡◌, ◌≤◌, ℕ, Bool, ◌&&◌, ◌||◌, not, List, nat_lt, Result, Ok, Err, if◌then◌else◌}
use Rattle.std.specs.List.{list_all}
use Rattle.link_net.specs.declared.field_set.FieldSet.{FieldSet}
use Rattle.link_net.specs.declared.fault.NetFault.{NetFault}
use Rattle.link_net.specs.declared.fault.NetFault.TheVariants.{NodeCount, BadLink}
use Rattle.link_net.specs.Limits.{most_nodes}
use Rattle.link_net.specs.Links.{AllWithin, network_of}
use Rattle.link_net.specs.Reading.{Description, and_then, sound}

-- a link: its two ends and its weight
abbrev pub Link : Type 0
Link = ℕ × ℕ × ℕ

-- links between so many nodes
pub record Listing : Type 0 where
  pub nodes : ℕ
  pub links : List Link

-- the links may be those of a network: the nodes are few enough, both ends of each link are nodes, none joins a node with itself, no two join the same two nodes, and neither they nor the neighbours of a node are too many
pub record IsListing (l : Listing) : Type 0 where
  pub some : 1 ≤ l.nodes
  pub small : l.nodes ≤ most_nodes
  pub within : AllWithin l.nodes l.links
  pub is_sound : sound l.nodes l.links ≡ Ok l.links

-- both ends of the link are below n
abbrev pub is_within : ℕ → Link → Bool
is_within n l = nat_lt l.0 n && nat_lt l.1 n

-- these links between n nodes, or the first fault, in the order in which a reader of network files finds them
abbrev pub listing_of : ℕ → List Link → Result Listing NetFault
listing_of n links =
    if nat_lt n 1 || nat_lt most_nodes n then Err NodeCount
    else if not (list_all (is_within n) links) then Err BadLink
    else and_then (sound n links) (λ ls. Ok (record { nodes = n; links = ls }))

-- the network of the links, with its opening phase and the pairs of `set`
abbrev pub described : Listing → ℕ → List FieldSet → Description
described l phase sets = record { network = network_of l.nodes l.links; phase = phase; sets = sets }
