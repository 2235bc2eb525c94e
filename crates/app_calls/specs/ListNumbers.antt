-- The numbers of the faults of the lists of a network, and where they lie. All other faults have those of the calls on texts.
use Rattle.std.specs.Prelude.{ℕ, ◌≡◌, Option, Some}
use Rattle.app_calls.specs.Numbers.{number_of}
use Rattle.large_net.specs.declared.fault.LargeFault.{LargeFault}
use Rattle.large_net.specs.declared.fault.LargeFault.TheVariants as rows
use Rattle.rounds_walk.specs.declared.part_rounds.fault.PartFault.{PartFault}
use Rattle.rounds_walk.specs.declared.part_rounds.fault.PartFault.TheVariants as parts
use Rattle.app_calls.specs.declared.large.fault.ListsFault.{ListsFault}
use Rattle.app_calls.specs.declared.large.fault.ListsFault.TheVariants as lists
use Rattle.app_calls.specs.declared.large.fault.LargeCallFault.{LargeCallFault}
use Rattle.app_calls.specs.declared.large.fault.LargeCallFault.TheVariants as large

-- of lists that are no rows
abbrev pub rows_number : LargeFault → ℕ
rows_number rows.Memory = 1
rows_number (rows.NodeCount nodes) = 144
rows_number (rows.Offsets node) = 145
rows_number (rows.TooManyNeighbours node) = 146
rows_number (rows.Neighbour end) = 147
rows_number rows.Magic = 3
rows_number rows.Header = 3
rows_number (rows.Length expected found) = 3

-- of lists
abbrev pub lists_number : ListsFault → ℕ
lists_number (lists.Rows f) = rows_number f
lists_number (lists.WeightCount weights) = 148

-- of what does not fit the rows of a part
abbrev pub part_number : PartFault → ℕ
part_number parts.WordCount = 149
part_number parts.NumberCount = 150
part_number parts.RoomCount = 151

-- of a call on lists
abbrev pub large_number_of : LargeCallFault → ℕ
large_number_of (large.Call f) = number_of f
large_number_of (large.Lists f) = lists_number f
large_number_of large.WordCount = 149
large_number_of (large.Part f) = part_number f
large_number_of large.NoField = 152
large_number_of large.TooManyValues = 153

-- where the fault of lists lies, or how many there are of what there are too many or too few
abbrev pub place_of : ListsFault → ℕ
place_of (lists.Rows (rows.NodeCount nodes)) = nodes
place_of (lists.Rows (rows.Offsets node)) = node
place_of (lists.Rows (rows.TooManyNeighbours node)) = node
place_of (lists.Rows (rows.Neighbour end)) = end
place_of (lists.Rows f) = 0
place_of (lists.WeightCount weights) = weights

-- this fault was found, and has this number and this place
pub record IsToldLists (found : Option ListsFault) (number place : ℕ) : Type 0 where
  pub of : ListsFault
  pub first : found ≡ Some of
  pub named : number ≡ lists_number of
  pub at : place ≡ place_of of

-- a fault that is so has this number
pub record IsLargeNumberOf (P : LargeCallFault → Type 0) (n : ℕ) : Type 0 where
  pub of : LargeCallFault
  pub number : n ≡ large_number_of of
  pub is : P of
