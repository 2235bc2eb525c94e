-- Which random networks can be drawn.
use Rattle.std.specs.Prelude.{ℕ, ◌≡◌, true, ◌||◌, nat_lt, List, Option, Some, None, if◌then◌else◌}
use Rattle.link_net.specs.Limits.{most_nodes, most_links, most_rows}
use Rattle.link_net.specs.Reading.{is_crowded}
use Rattle.net_text.specs.Listing.{Link}
use Rattle.net_random.specs.declared.random_network.RandomNetwork.{RandomNetwork}
use Rattle.net_random.specs.declared.bounds.NetworkBounds.{NetworkBounds}
use Rattle.net_random.specs.declared.fault.RandomFault.{RandomFault}
use Rattle.net_random.specs.declared.fault.RandomFault.TheVariants.{NodeCount, TooManyLinks, OddEnds, TooManyNeighbours, Undrawn, Memory}
use Rattle.net_random.specs.RandomNetworks.{node_count, pair_count, link_count, has_odd_ends, is_by_trial, IsOutcome}

-- why no such random network within the bounds can be drawn, whatever the seed
abbrev pub refusal_in : NetworkBounds → RandomNetwork → Option RandomFault
refusal_in bounds wanted =
    if nat_lt (node_count wanted) 1 || nat_lt bounds.nodes (node_count wanted) then Some NodeCount
    else if nat_lt bounds.links (link_count wanted) || nat_lt (pair_count (node_count wanted)) (link_count wanted) then Some TooManyLinks
    else if has_odd_ends wanted then Some OddEnds
    else None

-- the fault is one of the random network within the bounds: the sizes are refused by it, or they fit, and links that were drawn by trial do not make it; running out of memory refuses nothing, and how many neighbours a node has is not looked at
abbrev pub IsFaultIn : NetworkBounds → RandomNetwork → RandomFault → Type 0
IsFaultIn bounds wanted Memory = refusal_in bounds wanted ≡ None
IsFaultIn bounds wanted TooManyNeighbours = ⊥
IsFaultIn bounds wanted Undrawn = (refusal_in bounds wanted ≡ None) × (is_by_trial wanted ≡ true)
IsFaultIn bounds wanted fault = refusal_in bounds wanted ≡ Some fault

-- the most links of a network of any size: each has two ends
abbrev pub most_large_links : ℕ
most_large_links = 2147483647

-- the bounds of a network of any size
abbrev pub large_bounds : NetworkBounds
large_bounds = record { nodes = most_rows; links = most_large_links }

-- the bounds of a network file
abbrev pub file_bounds : NetworkBounds
file_bounds = record { nodes = most_nodes; links = most_links }

-- why a random network has no network file, whatever the seed
abbrev pub refusal_of : RandomNetwork → Option RandomFault
refusal_of wanted = refusal_in file_bounds wanted

-- links that the random network may draw leave some node with more neighbours than are allowed
abbrev pub MayCrowd : RandomNetwork → Type 0
MayCrowd wanted = (links : List Link) × IsOutcome wanted links × (is_crowded (node_count wanted) links ≡ true)

-- the fault is one of the random network: the sizes are refused by it, or they fit, and the links that were drawn make it, or do not where it is drawn by trial; running out of memory refuses nothing
abbrev pub IsFaultOf : RandomNetwork → RandomFault → Type 0
IsFaultOf wanted Memory = refusal_of wanted ≡ None
IsFaultOf wanted TooManyNeighbours = (refusal_of wanted ≡ None) × MayCrowd wanted
IsFaultOf wanted Undrawn = (refusal_of wanted ≡ None) × (is_by_trial wanted ≡ true)
IsFaultOf wanted fault = refusal_of wanted ≡ Some fault
