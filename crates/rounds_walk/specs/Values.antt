-- Values that are put into states.
use Rattle.std.specs.Prelude.{ℕ, List, length, map, Some, slice_set, Result, Ok, Err, nat_le, if◌then◌else◌}
use Rattle.rule_check.specs.declared.state.State.{State}
use Rattle.rule_check.specs.Value.{Rules}
use Rattle.rounds_plan.specs.Lockstep.{state_in}
use Rattle.rounds_plan.specs.Opening.{with_value}
use Rattle.rounds_walk.specs.declared.fault.SetFault.{SetFault}
use Rattle.rounds_walk.specs.declared.fault.SetFault.TheVariants.{NoField, NoNode}

-- the states with this value in the field of one node, or why there is no such place
abbrev pub set_at_node : Rules → List State → ℕ → ℕ → ℕ → Result (List State) SetFault
set_at_node program states node field value =
    if nat_le (length program.fields) field then Err NoField
    else if nat_le (length states) node then Err NoNode
    else Ok (slice_set states node (with_value field (Some value) (state_in states node)))

-- the states with this value in the field of all nodes, or why there is no such field
abbrev pub set_at_all : Rules → List State → ℕ → ℕ → Result (List State) SetFault
set_at_all program states field value =
    if nat_le (length program.fields) field then Err NoField
    else Ok (map (with_value field (Some value)) states)
