-- What the call on lists writes that watches rounds, and why it writes nothing: the first fault on the way. Memory may run out anywhere.
use Rattle.std.specs.Prelude.{ℕ, ◌≡◌, ◌≢◌, ◌-◌, ◌*◌, List, [], length, Some, None}
use Rattle.rule_lang.specs.Tree.{ItemTree}
use Rattle.rule_check.specs.Value.{Rules}
use Rattle.rule_check.specs.Items.{rules_of}
use Rattle.link_net.specs.Layout.{rows_of}
use Rattle.link_net.specs.Neighbours.{Neighbours}
use Rattle.large_net.specs.Large.{AreLaidOut}
use Rattle.rounds_plan.specs.Plans.{PlanView}
use Rattle.app_jobs.specs.Served.{IsAccepted, RefusesProgram}
use Rattle.app_calls.specs.declared.fault.Fault.TheVariants as call
use Rattle.app_calls.specs.Answers.{HaveRoundWords}
use Rattle.app_calls.specs.Refusals.{AreNoRounds}
use Rattle.app_calls.specs.Words.{list_fault}
use Rattle.app_calls.specs.declared.large.fault.LargeCallFault.{LargeCallFault}
use Rattle.app_calls.specs.declared.large.fault.LargeCallFault.TheVariants.{Call, Lists, WordCount}
use Rattle.app_calls.specs.Lists.{given_weights, lists_fault}
use Rattle.app_calls.specs.LargeAnswers.{given_plan, words_plan}

-- there is one word for each field of each node; and the words of the rounds of the plan that opens with them stand in front, one round after the other
pub record AreWatched (program : Rules) (rows : Neighbours) (start : ℕ) (from rounds old new : List ℕ) (nodes fields : ℕ) : Type 0 where
  pub count : length from ≡ length rows * length program.fields
  pub watched : HaveRoundWords (words_plan program rows from start) rounds old new nodes fields

-- the program is accepted, the lists are rows, and the words of the rounds from the start on stand in front
pub record HaveLargeRounds (program offsets neighbours weights : List ℕ) (start : ℕ) (from rounds old new : List ℕ) (fields : ℕ) : Type 0 where
  pub items : List ItemTree
  pub accepted : IsAccepted program items
  pub rows : AreLaidOut offsets neighbours (given_weights neighbours weights)
  pub made : AreWatched (rules_of items) (rows_of offsets neighbours (given_weights neighbours weights)) start from rounds old new (length offsets - 1) fields

-- a plan that starts at this round, with no node: which rounds a plan has stands in its start alone
abbrev pub plan_from : ℕ → PlanView
plan_from start = given_plan (rules_of []) [] [] start

-- on rows of so many nodes: the list of rounds has a fault; or it has none, and there is not one word for each field of each node; or there is, and the room is too small
abbrev pub AreUnwatched : Rules → Neighbours → ℕ → List ℕ → List ℕ → ℕ → ℕ → ℕ → LargeCallFault → Type 0
AreUnwatched program rows start from rounds room nodes fields WordCount =
    (list_fault (words_plan program rows from start) start rounds ≡ None) × (length from ≢ nodes * length program.fields) × (fields ≡ length program.fields)
AreUnwatched program rows start from rounds room nodes fields (Call call.Room) =
    (length from ≡ nodes * length program.fields) × AreNoRounds rounds room nodes fields (words_plan program rows from start) call.Room
AreUnwatched program rows start from rounds room nodes fields (Call f) = AreNoRounds rounds room nodes fields (words_plan program rows from start) f
AreUnwatched program rows start from rounds room nodes fields f = ⊥

-- the program is refused; or it is accepted, and the lists have this first fault; or they have none, and rounds, words or room are refused
abbrev pub IsRefusedWatch : List ℕ → List ℕ → List ℕ → List ℕ → ℕ → List ℕ → List ℕ → ℕ → ℕ → LargeCallFault → Type 0
IsRefusedWatch program offsets neighbours weights start from rounds room fields (Call (call.Texts f)) = RefusesProgram program f
IsRefusedWatch program offsets neighbours weights start from rounds room fields (Lists f) =
    (items : List ItemTree) × IsAccepted program items × (lists_fault offsets neighbours weights ≡ Some f)
IsRefusedWatch program offsets neighbours weights start from rounds room fields f =
    (items : List ItemTree) × IsAccepted program items × (lists_fault offsets neighbours weights ≡ None)
    × AreUnwatched (rules_of items) (rows_of offsets neighbours (given_weights neighbours weights)) start from rounds room (length offsets - 1) fields f
