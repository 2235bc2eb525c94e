-- Links that were drawn by trial and pass the tests.
use Rattle.std.proofs.Common.{◌≡◌, ◌<◌, ℕ, true, List, length}
use Rattle.std.proofs.lemmas.List.FromFn.{length-map-range_with_len}
use Rattle.link_net.specs.Links.{network_of, neighbours_of}
use Rattle.link_net.specs.Neighbours.{degree}
use Rattle.net_text.specs.Listing.{Link}
use Rattle.net_random.specs.declared.random_network.RandomNetwork.{RandomNetwork}
use Rattle.net_random.specs.RandomNetworks.{node_count, link_count, is_by_trial, AreSimpleLinks, IsDegree, HasDegrees, IsOutcome}

-- simple links of so many at each node make a random network that is drawn by trial
trial_has : (wanted : RandomNetwork) (links : List Link) → length links ≡ link_count wanted → AreSimpleLinks (node_count wanted) links → HasDegrees wanted links
    → is_by_trial wanted ≡ true → IsOutcome wanted links
trial_has (RandomNetwork.Random n k) links count simple degrees trial = cc
trial_has (RandomNetwork.Tree n) links count simple degrees trial = cc
trial_has (RandomNetwork.Preferential n e) links count simple degrees trial = cc
trial_has (RandomNetwork.Regular n d) links count simple degrees trial =
    record { count = count; simple = simple; back = tt; degrees = degrees; connected = tt; begun = tt; ring = tt }
trial_has (RandomNetwork.SmallWorld n k p q) links count simple degrees trial = cc

-- the same, where the network that the links make has those numbers of neighbours
pub trial_network_has : (wanted : RandomNetwork) (links : List Link) → length links ≡ link_count wanted → AreSimpleLinks (node_count wanted) links
    → ((u : ℕ) → u < length (network_of (node_count wanted) links) → IsDegree wanted (degree (network_of (node_count wanted) links) u))
    → is_by_trial wanted ≡ true → IsOutcome wanted links
trial_network_has wanted links count simple degrees =
    let long = length-map-range_with_len (neighbours_of (node_count wanted) links) 0 (node_count wanted) in
    trial_has wanted links count simple (λ u low. degrees u (rw long low))
