-- The nodes that a worker drives, and what comes of a pass over them.
use Rattle.std.specs.Prelude.{ℕ, ◌+◌, ◌%◌, ◌==◌, List, filter}
use Rattle.link_net.specs.Neighbours.{numbers_below}
use Rattle.unison_pool.specs.declared.worker.Pass.{Pass}
use Rattle.unison_pool.specs.declared.worker.Pass.TheVariants.{Ended, Idle, Moved}

-- the numbers below a count that leave the worker's modulo the number of workers, by rising number
abbrev pub part_of : ℕ → ℕ → ℕ → List ℕ
part_of count workers worker = filter (λ u. (u % workers) == worker) (numbers_below count)

-- what came of two passes: some moved in one of them; or none did, and all stood at the stop in both; or else some stood below it
abbrev pub both : Pass → Pass → Pass
both Moved later = Moved
both Ended later = later
both Idle Moved = Moved
both Idle Ended = Idle
both Idle Idle = Idle

-- a node's count of moves after a pass over it alone
abbrev pub moves_after : Pass → ℕ → ℕ
moves_after Moved moves = moves + 1
moves_after Idle moves = moves
moves_after Ended moves = moves
