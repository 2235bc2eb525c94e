-- What the call on lists writes that counts nodes by rounds, and why it writes nothing: the first fault on the way. Memory may run out anywhere.
use Rattle.std.specs.Prelude.{ℕ, ◌≡◌, ◌+◌, ◌-◌, ◌*◌, ◌<◌, ◌≤◌, ◌==◌, not, nat_le, nat_lt, List, length, Option, Some, None, if◌then◌else◌}
use Rattle.std.specs.List.{flat_map}
use Rattle.rule_lang.specs.Tree.{ItemTree}
use Rattle.rule_check.specs.Value.{Rules}
use Rattle.rule_check.specs.Items.{rules_of}
use Rattle.link_net.specs.Layout.{rows_of}
use Rattle.link_net.specs.Neighbours.{Neighbours}
use Rattle.large_net.specs.Large.{AreLaidOut}
use Rattle.rounds_plan.specs.Lockstep.{lockstep_config}
use Rattle.rounds_plan.specs.Plans.{PlanView}
use Rattle.app_jobs.specs.Served.{IsAccepted, RefusesProgram}
use Rattle.app_calls.specs.declared.fault.Fault.TheVariants as call
use Rattle.app_calls.specs.Words.{list_fault, with_front}
use Rattle.app_calls.specs.declared.large.fault.LargeCallFault.{LargeCallFault}
use Rattle.app_calls.specs.declared.large.fault.LargeCallFault.TheVariants.{Call, Lists, WordCount, NoField, TooManyValues}
use Rattle.app_calls.specs.Lists.{given_weights, lists_fault}
use Rattle.app_calls.specs.Counted.{counts_in}
use Rattle.app_calls.specs.LargeAnswers.{words_plan}

-- so many values are counted at most: as many as a model names states of a field
abbrev pub most_values : ℕ
most_values = 256

-- after each of these rounds of a plan, round by round: for each value how many nodes have it in the field, and last how many have none of them
abbrev pub counts_at : PlanView → ℕ → List ℕ → List ℕ → List ℕ
counts_at p field values rounds = flat_map (λ t. counts_in field values (lockstep_config p t).states) rounds

-- there is one word for each field of each node, the program has the field, and there are not too many values; and the counts of the rounds of the plan that opens with the words stand in front, one round after the other
pub record AreCounted (program : Rules) (rows : Neighbours) (start : ℕ) (from rounds : List ℕ) (field : ℕ) (values old new : List ℕ) (fields : ℕ) : Type 0 where
  pub there : list_fault (words_plan program rows from start) start rounds ≡ None
  pub count : length from ≡ length rows * length program.fields
  pub known : field < length program.fields
  pub few : length values ≤ most_values
  pub counts : new ≡ with_front (counts_at (words_plan program rows from start) field values rounds) old
  pub field_count : fields ≡ length program.fields

-- the program is accepted, the lists are rows, and the counts of the rounds from the start on stand in front
pub record HaveLargeCounts (program offsets neighbours weights : List ℕ) (start : ℕ) (from rounds : List ℕ) (field : ℕ) (values old new : List ℕ) (fields : ℕ) : Type 0 where
  pub items : List ItemTree
  pub accepted : IsAccepted program items
  pub rows : AreLaidOut offsets neighbours (given_weights neighbours weights)
  pub made : AreCounted (rules_of items) (rows_of offsets neighbours (given_weights neighbours weights)) start from rounds field values old new fields

-- why counts of so many rounds are refused, of so many nodes and fields: there is not one of so many words for each field of each node; or the program lacks the field; or there are too many values; or the room is too small for all counts
abbrev pub counts_fault : ℕ → ℕ → ℕ → ℕ → ℕ → ℕ → ℕ → Option LargeCallFault
counts_fault nodes fields words field values rounds room =
    if not (words == nodes * fields) then Some WordCount
    else if nat_le fields field then Some NoField
    else if nat_lt most_values values then Some TooManyValues
    else if nat_lt room (rounds * (values + 1)) then Some (Call call.Room)
    else None

-- the list of rounds has none, and of what else is asked for this is the first fault; the program has so many fields
pub record AreRefusedCounts (p : PlanView) (start : ℕ) (rounds : List ℕ) (nodes words field values room fields : ℕ) (f : LargeCallFault) : Type 0 where
  pub there : list_fault p start rounds ≡ None
  pub fault : counts_fault nodes (length p.program.fields) words field values (length rounds) room ≡ Some f
  pub field_count : fields ≡ length p.program.fields

-- on rows of so many nodes: the list of rounds has a fault; or it has none, and what else is asked for has one
abbrev pub AreUncounted : Rules → Neighbours → ℕ → List ℕ → List ℕ → ℕ → ℕ → ℕ → ℕ → ℕ → LargeCallFault → Type 0
AreUncounted program rows start from rounds field values room nodes fields (Call (call.Round f)) = list_fault (words_plan program rows from start) start rounds ≡ Some (call.Round f)
AreUncounted program rows start from rounds field values room nodes fields (Call call.NotRising) = list_fault (words_plan program rows from start) start rounds ≡ Some call.NotRising
AreUncounted program rows start from rounds field values room nodes fields (Call call.Memory) = Unit {0}
AreUncounted program rows start from rounds field values room nodes fields (Call call.Room) = AreRefusedCounts (words_plan program rows from start) start rounds nodes (length from) field values room fields (Call call.Room)
AreUncounted program rows start from rounds field values room nodes fields WordCount = AreRefusedCounts (words_plan program rows from start) start rounds nodes (length from) field values room fields WordCount
AreUncounted program rows start from rounds field values room nodes fields NoField = AreRefusedCounts (words_plan program rows from start) start rounds nodes (length from) field values room fields NoField
AreUncounted program rows start from rounds field values room nodes fields TooManyValues = AreRefusedCounts (words_plan program rows from start) start rounds nodes (length from) field values room fields TooManyValues
AreUncounted program rows start from rounds field values room nodes fields f = ⊥

-- the program is refused; or it is accepted, and the lists have this first fault; or they have none, and the rounds or what else is asked for is refused
abbrev pub IsRefusedCounts : List ℕ → List ℕ → List ℕ → List ℕ → ℕ → List ℕ → List ℕ → ℕ → ℕ → ℕ → ℕ → LargeCallFault → Type 0
IsRefusedCounts program offsets neighbours weights start from rounds field values room fields (Call (call.Texts f)) = RefusesProgram program f
IsRefusedCounts program offsets neighbours weights start from rounds field values room fields (Lists f) =
    (items : List ItemTree) × IsAccepted program items × (lists_fault offsets neighbours weights ≡ Some f)
IsRefusedCounts program offsets neighbours weights start from rounds field values room fields f =
    (items : List ItemTree) × IsAccepted program items × (lists_fault offsets neighbours weights ≡ None)
    × AreUncounted (rules_of items) (rows_of offsets neighbours (given_weights neighbours weights)) start from rounds field values room (length offsets - 1) fields f
