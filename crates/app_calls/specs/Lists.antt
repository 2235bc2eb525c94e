-- A network as three lists: where each node's part begins and last where they end, the neighbours of all nodes, the weights.
use Rattle.std.specs.Prelude.{ℕ, ◌-◌, ◌==◌, ◌&&◌, ◌||◌, not, nat_lt, List, [], ◌∷◌, length, replicate, Option, Some, option_map, if◌then◌else◌}
use Rattle.link_net.specs.Layout.{rows_of}
use Rattle.link_net.specs.Limits.{most_rows}
use Rattle.link_net.specs.Neighbours.{Neighbours}
use Rattle.large_net.specs.Large.{AreLaidOut}
use Rattle.large_net.specs.declared.fault.LargeFault.TheVariants.{NodeCount}
use Rattle.large_net.specs.File.{rows_fault}
use Rattle.app_calls.specs.declared.large.fault.ListsFault.{ListsFault}
use Rattle.app_calls.specs.declared.large.lists.Lists.{Lists}
use Rattle.app_calls.specs.declared.large.fault.ListsFault.TheVariants.{Rows, WeightCount}

-- the weights of the links; where none are given each is 1
abbrev pub given_weights : List ℕ → List ℕ → List ℕ
given_weights neighbours [] = replicate (length neighbours) 1
given_weights neighbours (w ∷ weights) = w ∷ weights

-- the lists are laid out as rows, in which each weight is 1 where none are given
abbrev pub AreRows : Lists → Type 0
AreRows lists = AreLaidOut lists.offsets.now lists.neighbours.now (given_weights lists.neighbours.now lists.weights.now)

-- the rows
abbrev pub rows_in : Lists → Neighbours
rows_in lists = rows_of lists.offsets.now lists.neighbours.now (given_weights lists.neighbours.now lists.weights.now)

-- the first fault of three lists: there are no nodes or too many; weights are given, and not as many as neighbours; or the first that is wrong with the rows
abbrev pub lists_fault : List ℕ → List ℕ → List ℕ → Option ListsFault
lists_fault offsets neighbours weights =
    if length offsets - 1 == 0 || nat_lt most_rows (length offsets - 1) then Some (Rows (NodeCount (length offsets - 1)))
    else if not (length weights == 0) && not (length weights == length neighbours) then Some (WeightCount (length weights))
    else option_map Rows (rows_fault offsets neighbours)
