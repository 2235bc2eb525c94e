-- Weights that are drawn.
use Rattle.std.specs.Prelude.{◌≡◌, ◌≤◌, ◌<◌, ℕ, List, [], map, max, Option, Some, None, Ok}
use Rattle.std.specs.List.{AllByRecursion}
use Rattle.link_net.specs.Reading.{reading_of}
use Rattle.link_net.specs.Links.{network_of}
use Rattle.link_net.specs.Neighbours.{Neighbours}
use Rattle.net_text.specs.Listing.{Link, Listing, described}
use Rattle.net_random.specs.declared.weight_draw.WeightDraw.{WeightDraw}
use Rattle.net_random.specs.declared.weight_fault.WeightFault.{WeightFault}
use Rattle.net_random.specs.declared.weight_fault.WeightFault.TheVariants.{NoWeight, Memory}

-- the two ends of a link
abbrev pub ends : Link → ℕ × ℕ
ends l = (l.0, l.1)

-- each weight is from low to high
abbrev pub AllBetween : ℕ → ℕ → List Link → Type 0
AllBetween low high links = AllByRecursion (λ l. (low ≤ l.2) × (l.2 ≤ high)) links

-- the text is a network file, and it reads to these links, each with a weight from low to high, in phase 0, with no initial values
pub record IsWeighted (list : Listing) (low high : ℕ) (text : List ℕ) : Type 0 where
  pub drawn : Listing
  pub nodes : drawn.nodes ≡ list.nodes
  pub ends : map ends drawn.links ≡ map ends list.links
  pub weights : AllBetween low high drawn.links
  pub reads : reading_of text ≡ Ok (described drawn 0 [])

-- the links with weights between the low and the high one, where such are drawn, and else as they are; a high one below the low one is taken as that
abbrev pub HasWeights : Option WeightDraw → List Link → List Link → Type 0
HasWeights None links drawn = drawn ≡ links
HasWeights (Some w) links drawn = (map ends drawn ≡ map ends links) × AllBetween w.low (max w.high w.low) drawn

-- the network is that of these links, with their weights
pub record IsWeightedNetwork (n : ℕ) (weights : Option WeightDraw) (links : List Link) (network : Neighbours) : Type 0 where
  pub drawn : List Link
  pub weighted : HasWeights weights links drawn
  pub rows : network ≡ network_of n drawn

-- no weight lies between exactly where this is told; running out of memory refuses nothing
abbrev pub IsFaultOf : ℕ → ℕ → WeightFault → Type 0
IsFaultOf low high NoWeight = high < low
IsFaultOf low high Memory = low ≤ high
