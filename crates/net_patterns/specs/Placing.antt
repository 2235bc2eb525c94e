-- Live cells on a grid of nodes, which are numbered row by row.
use Rattle.std.specs.Prelude.{ℕ, ◌+◌, ◌*◌, Bool, ◌&&◌, not, List, map, nat_lt, Option, Some, None, Result, Ok, Err}
use Rattle.std.specs.List.{find}
use Rattle.net_patterns.specs.declared.board.Cell.{Cell}
use Rattle.net_patterns.specs.declared.placing.Corner.{Corner}
use Rattle.net_patterns.specs.declared.placing.Grid.{Grid}
use Rattle.net_patterns.specs.declared.placing.PlaceFault.{PlaceFault}
use Rattle.net_patterns.specs.declared.placing.PlaceFault.TheVariants.{Outside}

-- the node where a cell of a pattern stands whose top left corner is at this column and row
abbrev pub node_at : Grid → Corner → Cell → ℕ
node_at grid corner cell = grid.width * (corner.row + cell.row) + (corner.column + cell.column)

-- the cell stands in one of the grid's columns, and on one of its nodes
abbrev pub is_inside : Grid → Corner → Cell → Bool
is_inside grid corner cell = nat_lt (corner.column + cell.column) grid.width && nat_lt (node_at grid corner cell) grid.nodes

-- the first cell outside is the fault, and else these are the nodes
abbrev pub nodes_unless : Grid → Corner → List Cell → Option Cell → Result (List ℕ) PlaceFault
nodes_unless grid corner cells (Some cell) = Err (Outside cell)
nodes_unless grid corner cells None = Ok (map (node_at grid corner) cells)

-- the nodes where the cells stand, or the first cell outside the grid
abbrev pub placing_of : Grid → Corner → List Cell → Result (List ℕ) PlaceFault
placing_of grid corner cells = nodes_unless grid corner cells (find (λ c. not (is_inside grid corner c)) cells)
