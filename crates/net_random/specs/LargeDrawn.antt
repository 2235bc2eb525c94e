-- Networks of any size, drawn at random.
use Rattle.std.specs.Prelude.{List, Option}
use Rattle.link_net.specs.Neighbours.{Neighbours}
use Rattle.net_text.specs.Listing.{Link}
use Rattle.net_random.specs.declared.random_network.RandomNetwork.{RandomNetwork}
use Rattle.net_random.specs.declared.weight_draw.WeightDraw.{WeightDraw}
use Rattle.net_random.specs.RandomNetworks.{node_count, IsOutcome}
use Rattle.net_random.specs.Weights.{IsWeightedNetwork}

-- the network is that of links which may be drawn for the random network, with their weights: in the row of each node stand, by rising number, the nodes that are linked with it, once
pub record IsDrawn (wanted : RandomNetwork) (weights : Option WeightDraw) (network : Neighbours) : Type 0 where
  pub links : List Link
  pub outcome : IsOutcome wanted links
  pub weighted : IsWeightedNetwork (node_count wanted) weights links network
