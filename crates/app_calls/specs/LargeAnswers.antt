-- What the calls on lists write, and why they write nothing: the first fault on the way. Memory may run out anywhere.
use Rattle.std.specs.Prelude.{ℕ, ◌≡◌, ◌≢◌, ◌-◌, ◌*◌, ◌<◌, List, length, Some, None, Ok, Err}
use Rattle.rule_lang.specs.declared.fault.LangFault.TheVariants as lang
use Rattle.rule_lang.specs.Tree.{ItemTree}
use Rattle.rule_check.specs.declared.state.State.{State}
use Rattle.rule_check.specs.Value.{Rules}
use Rattle.rule_check.specs.Items.{rules_of}
use Rattle.link_net.specs.Layout.{rows_of}
use Rattle.link_net.specs.Neighbours.{Neighbours}
use Rattle.large_net.specs.Large.{AreLaidOut}
use Rattle.rounds_plan.specs.declared.fault.RoundFault.{RoundFault}
use Rattle.rounds_plan.specs.Configs.{Configuration}
use Rattle.rounds_plan.specs.Lockstep.{rounds_of}
use Rattle.rounds_plan.specs.Plans.{PlanView}
use Rattle.app_jobs.specs.declared.fault.ServeFault.TheVariants as serve
use Rattle.app_jobs.specs.Served.{IsAccepted, RefusesProgram}
use Rattle.app_calls.specs.declared.fault.Fault.TheVariants as call
use Rattle.app_calls.specs.Words.{words_of}
use Rattle.app_calls.specs.declared.large.fault.LargeCallFault.{LargeCallFault}
use Rattle.app_calls.specs.declared.large.fault.LargeCallFault.TheVariants.{Call, Lists, WordCount}
use Rattle.app_calls.specs.Lists.{given_weights, lists_fault}
use Rattle.rounds_walk.specs.part_rounds.States.{states_of}

-- the plan of a program on rows whose nodes have these states at this round
abbrev pub given_plan : Rules → Neighbours → List State → ℕ → PlanView
given_plan program rows opening start = record { program = program; network = rows; phase = 0; opening = opening; start = start }

-- the same, where the states are those of these words
abbrev pub words_plan : Rules → Neighbours → List ℕ → ℕ → PlanView
words_plan program rows words start = given_plan program rows (states_of (length program.fields) (length rows) words) start

-- there is one word for each field of each node; and the new words are those of the round of the plan that opens with the old ones
pub record AreMoved (program : Rules) (rows : Neighbours) (start round : ℕ) (old new : List ℕ) : Type 0 where
  pub count : length old ≡ length rows * length program.fields
  pub c : Configuration
  pub there : rounds_of (words_plan program rows old start) round ≡ Ok c
  pub words : new ≡ words_of c

-- the program is accepted, the lists are rows of so many fields, and the words are moved on from the start to the round
pub record HasLargeRounds (program offsets neighbours weights : List ℕ) (start round : ℕ) (old new : List ℕ) (fields : ℕ) : Type 0 where
  pub items : List ItemTree
  pub accepted : IsAccepted program items
  pub rows : AreLaidOut offsets neighbours (given_weights neighbours weights)
  pub moved : AreMoved (rules_of items) (rows_of offsets neighbours (given_weights neighbours weights)) start round old new
  pub field_count : fields ≡ length (rules_of items).fields

-- no plan that starts at this round has that round, for this fault
abbrev pub IsNoSpan : ℕ → ℕ → RoundFault → Type 0
IsNoSpan start round f = (p : PlanView) → p.start ≡ start → rounds_of p round ≡ Err f

-- each plan that starts at this round has that round
abbrev pub HasSpan : ℕ → ℕ → Type 0
HasSpan start round = (p : PlanView) → p.start ≡ start → (c : Configuration) × (rounds_of p round ≡ Ok c)

-- of so many nodes: the round is none of a plan that starts there; or it is one, and there is not one word for each field of each node
abbrev pub IsNoMove : Rules → ℕ → ℕ → ℕ → ℕ → ℕ → LargeCallFault → Type 0
IsNoMove program nodes start round room fields (Call (call.Round f)) = IsNoSpan start round f
IsNoMove program nodes start round room fields (Call call.Memory) = Unit {0}
IsNoMove program nodes start round room fields WordCount = HasSpan start round × (room ≢ nodes * length program.fields) × (fields ≡ length program.fields)
IsNoMove program nodes start round room fields f = ⊥

-- the program is refused; or it is accepted, and the lists have this first fault; or they have none, and the round or the number of words is refused
abbrev pub IsRefusedRounds : List ℕ → List ℕ → List ℕ → List ℕ → ℕ → ℕ → ℕ → ℕ → LargeCallFault → Type 0
IsRefusedRounds program offsets neighbours weights start round room fields (Call (call.Texts f)) = RefusesProgram program f
IsRefusedRounds program offsets neighbours weights start round room fields (Lists f) =
    (items : List ItemTree) × IsAccepted program items × (lists_fault offsets neighbours weights ≡ Some f)
IsRefusedRounds program offsets neighbours weights start round room fields f =
    (items : List ItemTree) × IsAccepted program items × (lists_fault offsets neighbours weights ≡ None)
    × IsNoMove (rules_of items) (length offsets - 1) start round room fields f

-- a program's text that is too long is told as that, whatever memory there is
abbrev pub IsLongLarge : List ℕ → LargeCallFault → Type 0
IsLongLarge program f = 65536 < length program → f ≡ Call (call.Texts (serve.Lang lang.TooLong))
