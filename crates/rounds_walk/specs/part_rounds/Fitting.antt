-- What a part has to have so that each look at it finds something.
use Rattle.std.specs.Prelude.{◌≡◌, ◌≤◌, ◌*◌, List, length}
use Rattle.rule_check.specs.declared.state.State.{State}
use Rattle.link_net.specs.Neighbours.{AreRows}
use Rattle.rounds_walk.specs.declared.part_rounds.next.Part.{Part}
use Rattle.rounds_walk.specs.part_rounds.States.{states_of}

-- the states of all nodes of a part
abbrev pub states_in : Part → List State
states_in part = states_of part.fields (length part.rows.now) part.from.now

-- the lists of a part are as long as it needs
pub record Fits (part : Part) : Type 0 where
  pub rows : AreRows part.rows.now
  pub few : part.fields ≤ 8
  pub fields : part.fields ≡ length part.program.now.fields
  pub numbers : length part.ids.now ≡ length part.rows.now
  pub words : length part.from.now ≡ length part.rows.now * part.fields
