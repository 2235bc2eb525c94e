-- Networks each of whose pairs of nodes is linked with a chance.
use Rattle.std.specs.Prelude.{◌≡◌, ◌<◌, ◌≤◌, ◌⊎◌, true, ℕ, zero, suc, ◌+◌, Bool, List, [], ◌∷◌, length, map, nat_lt, Ok, if◌then◌else◌}
use Rattle.rand_core.specs.Stream.{Stream}
use Rattle.rand_core.specs.Steps.{stream_of, steps_u64_low}
use Rattle.rand_core.specs.Pcg32Seed.{pcg32_seed}
use Rattle.rand_pcg.specs.Pcg.{pcg64, pcg64_of_seed}
use Rattle.rand.specs.Uniform.{canon, usize_between}
use Rattle.link_net.specs.Limits.{most_nodes, most_links}
use Rattle.link_net.specs.Reading.{is_crowded, reading_of}
use Rattle.net_text.specs.Listing.{Link, described}
use Rattle.net_random.specs.declared.fault.RandomFault.{RandomFault}
use Rattle.net_random.specs.declared.fault.RandomFault.TheVariants.{NodeCount, TooManyLinks, TooManyNeighbours, Memory}
use Rattle.net_random.specs.RandomNetworks.{pair_count}
use Rattle.net_random.specs.Sizes.{most_large_links}
use Rattle.net_random.specs.Pairs.{link_at}

-- the words of the generator PCG XSL RR 128/64 that a seed starts
abbrev pub stream_by : ℕ → Stream
stream_by seed = stream_of (steps_u64_low pcg64) (pcg64_of_seed (pcg32_seed 32 seed))

-- a number from 0 to 999,999,999, drawn by Canon's method, and what that leaves of the stream
abbrev pub number_in : Stream → ℕ × Stream
number_in s = usize_between canon 0 999999999 s

-- the place before others, where it is wanted
abbrev pub place_before : Bool → ℕ → List ℕ → List ℕ
place_before wanted place places = if wanted then place ∷ places else places

-- of so many places from this one on, those whose numbers, drawn one after another, are below the chance of the place, in billionths
abbrev pub places_from : (ℕ → ℕ) → ℕ → ℕ → Stream → List ℕ
places_from chance zero place s = []
places_from chance (suc k) place s = place_before (nat_lt (number_in s).0 (chance place)) place (places_from chance k (place + 1) (number_in s).1)

-- the chance, in billionths, with which the pair at a place is linked
abbrev pub chance_at : (Link → ℕ) → ℕ → ℕ → ℕ
chance_at chance n place = chance (link_at n place)

-- the links of the pairs of n nodes whose numbers are below the chance of the pair, in billionths; a seed draws one for each pair
abbrev pub links_by_chance : (Link → ℕ) → ℕ → ℕ → List Link
links_by_chance chance n seed = map (link_at n) (places_from (chance_at chance n) (pair_count n) 0 (stream_by seed))

-- the same where each pair of nodes has the same chance, of so many billionths
abbrev pub chance_links : ℕ → ℕ → ℕ → List Link
chance_links n billionths seed = links_by_chance (λ l. billionths) n seed

-- a network file may have so many nodes
abbrev pub IsNodeCount : ℕ → Type 0
IsNodeCount n = (1 ≤ n) × (n ≤ most_nodes)

-- the fault is the first of these links between n nodes; running out of memory refuses nothing, and comes only where the
-- number of nodes is no fault
abbrev pub IsChanceFault : ℕ → List Link → RandomFault → Type 0
IsChanceFault n links NodeCount = (n < 1) ⊎ (most_nodes < n)
IsChanceFault n links TooManyLinks = IsNodeCount n × (most_links < length links)
IsChanceFault n links TooManyNeighbours = IsNodeCount n × (length links ≤ most_links) × (is_crowded n links ≡ true)
IsChanceFault n links Memory = IsNodeCount n
IsChanceFault n links fault = ⊥

-- the same of a network of any size
abbrev pub IsLargeChanceFault : ℕ → List Link → RandomFault → Type 0
IsLargeChanceFault n links NodeCount = n < 1
IsLargeChanceFault n links TooManyLinks = (1 ≤ n) × (most_large_links < length links)
IsLargeChanceFault n links Memory = 1 ≤ n
IsLargeChanceFault n links fault = ⊥

-- the text is a network file, and it reads to the network of these links between n nodes, in phase 0, with no initial values
abbrev pub IsChanceText : ℕ → List Link → List ℕ → Type 0
IsChanceText n links text = reading_of text ≡ Ok (described (record { nodes = n; links = links }) 0 [])
