-- Networks whose nodes stand in blocks: the stochastic block model.
use Rattle.std.specs.Prelude.{◌<◌, ◌≤◌, ◌⊎◌, ◌==◌, ◌+◌, ℕ, List, [], ◌∷◌, ◌++◌, get_or, replicate, if◌then◌else◌}
use Rattle.std.specs.List.{sum}
use Rattle.link_net.specs.Limits.{most_rows}
use Rattle.net_text.specs.Listing.{Link}
use Rattle.net_random.specs.declared.pair_chance.BlockChances.{BlockChances}
use Rattle.net_random.specs.declared.fault.RandomFault.{RandomFault}
use Rattle.net_random.specs.declared.fault.RandomFault.TheVariants.{NodeCount}
use Rattle.net_random.specs.Chances.{links_by_chance, IsLargeChanceFault}

-- the block of each node, where blocks have these sizes, and are numbered from k on
abbrev pub blocks_from : ℕ → List ℕ → List ℕ
blocks_from k [] = []
blocks_from k (size ∷ sizes) = replicate size k ++ blocks_from (k + 1) sizes

-- the block of each node: first come the nodes of block 0, then those of block 1
abbrev pub blocks_of : List ℕ → List ℕ
blocks_of sizes = blocks_from 0 sizes

-- the chance, in billionths, with which the two nodes of a link are linked, where each node stands in this block
abbrev pub pair_chance : List ℕ → BlockChances → Link → ℕ
pair_chance blocks chances l = if get_or blocks l.0 0 == get_or blocks l.1 0 then chances.within else chances.between

-- the links of the pairs of nodes whose numbers are below the chance of the pair
abbrev pub block_links : List ℕ → BlockChances → ℕ → List Link
block_links sizes chances seed = links_by_chance (pair_chance (blocks_of sizes) chances) (sum sizes) seed

-- the fault is the first of these links between n nodes in a network of any size, n being the sum of sizes
abbrev pub IsLargeBlockFault : ℕ → List Link → RandomFault → Type 0
IsLargeBlockFault n links NodeCount = (n < 1) ⊎ (most_rows < n)
IsLargeBlockFault n links fault = (n ≤ most_rows) × IsLargeChanceFault n links fault
