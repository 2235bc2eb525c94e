-- A desk: which slots were read, and the aggregates over what was read there.
use Rattle.std.specs.Prelude.{◌≡◌, ℕ, ◌<◌, ◌-◌, ◌++◌, Bool, true, false, List, [], length, map, replicate, set, slice_index_or}
use Rattle.rule_check.specs.declared.state.Near.{Near}
use Rattle.rule_check.specs.declared.state.Sums.{Sums}
use Rattle.rule_check.specs.Table.{gather}
use Rattle.rule_check.specs.Value.{Rules, here_at}
use Rattle.rule_check.specs.WellFormed.{all_parts}
use Rattle.rule_check.specs.Gathering.{sums_at, taken}
use Rattle.unison_node.specs.declared.desk.Seat.{Seat}

-- for each slot whether it is marked, and the sums
pub record DeskView : Type 0 where
  pub marks : List Bool
  pub sums : Sums

-- the aggregates over these neighbours, for the node in this seat with this degree
abbrev pub sums_over : Rules → Seat → ℕ → List Near → Sums
sums_over rules seat degree nears = sums_at rules (here_at rules seat.round seat.id degree seat.own nears)

-- the aggregates over no neighbour: number, degree, state and round play no part
abbrev pub sums_over_none : Rules → Sums
sums_over_none rules = record { words = map (λ part. gather part.agg []) (all_parts rules.nexts) ++ replicate (16 - length (all_parts rules.nexts)) 0 }

-- a desk of so many slots, none marked
abbrev pub empty : Rules → ℕ → DeskView
empty rules degree = record { marks = replicate degree false; sums = sums_over_none rules }

-- the desk with all slots unmarked
abbrev pub cleared : Rules → DeskView → DeskView
cleared rules desk = empty rules (length desk.marks)

-- whether a slot is marked; none is past the last
abbrev pub has_mark : DeskView → ℕ → Bool
has_mark desk slot = slice_index_or desk.marks slot false

-- every slot is marked
abbrev pub IsReady : DeskView → Type 0
IsReady desk = (j : ℕ) → j < length desk.marks → has_mark desk j ≡ true

-- the desk with one slot more marked and this neighbour taken into the sums
abbrev pub taken_in : Rules → Seat → ℕ → Near → DeskView → DeskView
taken_in rules seat slot near desk =
    record { marks = set desk.marks slot true; sums = taken rules (here_at rules seat.round seat.id (length desk.marks) seat.own []) near desk.sums }
