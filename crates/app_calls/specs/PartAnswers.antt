-- What the call on a part writes, and why it writes nothing: the first fault on the way. Memory may run out anywhere.
use Rattle.std.specs.Prelude.{ℕ, ◌≡◌, List, length, Some, None}
use Rattle.rule_lang.specs.Tree.{ItemTree}
use Rattle.rule_check.specs.Value.{Rules}
use Rattle.rule_check.specs.Items.{rules_of}
use Rattle.link_net.specs.Layout.{rows_of}
use Rattle.link_net.specs.Neighbours.{Neighbours}
use Rattle.large_net.specs.Large.{AreLaidOut}
use Rattle.rounds_walk.specs.part_rounds.Parts.{changed_count, own_nodes, part_fault_of, part_states}
use Rattle.rounds_walk.specs.part_rounds.States.{states_of, words_in}
use Rattle.app_jobs.specs.Served.{IsAccepted, RefusesProgram}
use Rattle.app_calls.specs.declared.fault.Fault.TheVariants as call
use Rattle.app_calls.specs.declared.large.fault.LargeCallFault.{LargeCallFault}
use Rattle.app_calls.specs.declared.large.fault.LargeCallFault.TheVariants.{Call, Lists, Part}
use Rattle.app_calls.specs.Lists.{given_weights, lists_fault}

-- numbers, words and room fit the rows; the new words are those of the next states of the own nodes; and so many of these changed
pub record IsPartRound (program : Rules) (ids : List ℕ) (rows : Neighbours) (round : ℕ) (from : List ℕ) (room : ℕ) (to : List ℕ) (changed : ℕ) : Type 0 where
  pub fits : part_fault_of program ids rows (length from) room ≡ None
  pub next : to ≡ words_in (length program.fields) (part_states program ids rows round (states_of (length program.fields) (length rows) from) (own_nodes program room))
  pub count : changed ≡ changed_count program ids rows round (states_of (length program.fields) (length rows) from) (own_nodes program room)

-- the program is accepted, the lists are rows, and the round of the part is made
pub record HasPartRound (program ids offsets neighbours weights : List ℕ) (round : ℕ) (from : List ℕ) (room : ℕ) (to : List ℕ) (changed : ℕ) : Type 0 where
  pub items : List ItemTree
  pub accepted : IsAccepted program items
  pub rows : AreLaidOut offsets neighbours (given_weights neighbours weights)
  pub made : IsPartRound (rules_of items) ids (rows_of offsets neighbours (given_weights neighbours weights)) round from room to changed

-- numbers, so many words, or the room do not fit the rows, with this first fault
abbrev pub IsNoPart : Rules → List ℕ → Neighbours → ℕ → ℕ → LargeCallFault → Type 0
IsNoPart program ids rows words room (Part f) = part_fault_of program ids rows words room ≡ Some f
IsNoPart program ids rows words room (Call call.Memory) = Unit {0}
IsNoPart program ids rows words room f = ⊥

-- the program is refused; or it is accepted, and the lists have this first fault; or they have none, and something does not fit
abbrev pub IsRefusedPart : List ℕ → List ℕ → List ℕ → List ℕ → List ℕ → ℕ → ℕ → LargeCallFault → Type 0
IsRefusedPart program ids offsets neighbours weights words room (Call (call.Texts f)) = RefusesProgram program f
IsRefusedPart program ids offsets neighbours weights words room (Lists f) =
    (items : List ItemTree) × IsAccepted program items × (lists_fault offsets neighbours weights ≡ Some f)
IsRefusedPart program ids offsets neighbours weights words room f =
    (items : List ItemTree) × IsAccepted program items × (lists_fault offsets neighbours weights ≡ None)
    × IsNoPart (rules_of items) ids (rows_of offsets neighbours (given_weights neighbours weights)) words room f
