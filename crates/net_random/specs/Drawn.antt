-- What the network file of a random network is.
use Rattle.std.specs.Prelude.{◌≡◌, ℕ, List, [], Ok}
use Rattle.link_net.specs.Reading.{reading_of}
use Rattle.net_text.specs.Listing.{Listing, described}
use Rattle.net_random.specs.declared.random_network.RandomNetwork.{RandomNetwork}
use Rattle.net_random.specs.RandomNetworks.{node_count, IsOutcome}

-- the text is a network file, and it reads to the network of links that may be drawn for the random network, in phase 0, with no initial values
pub record IsDrawn (wanted : RandomNetwork) (text : List ℕ) : Type 0 where
  pub list : Listing
  pub nodes : list.nodes ≡ node_count wanted
  pub links : IsOutcome wanted list.links
  pub reads : reading_of text ≡ Ok (described list 0 [])
