-- Which traces hold, and why others do not.
use Rattle.std.specs.Prelude.{◌≡◌, ◌≢◌, ◌⊎◌, ℕ, ◌<◌, Bool, true, false, IsTrue, List, ◌∷◌, ◌++◌, length, map, slice_index, Option}
use Rattle.std.specs.List.{AllZip, list_any, count_by}
use Rattle.std.specs.Option.{is_some}
use Rattle.import_lines.specs.Texts.{told_from}
use Rattle.link_net.specs.Neighbours.{Neighbours, degree, neighbour}
use Rattle.rounds_plan.specs.Configs.{most_rounds}
use Rattle.rounds_plan.specs.Plans.{PlanView}
use Rattle.unison_world.specs.declared.step.Step.{Step}
use Rattle.unison_world.specs.declared.step.Answer.TheVariants as answer
use Rattle.unison_world.specs.Counting.{Counts, moves_of, is_marked, at_start, answer_of}
use Rattle.unison_trace.specs.Histories.{LeadTo, is_change}
use Rattle.run_steps.specs.declared.verify.entry.Entry.{Entry}
use Rattle.run_steps.specs.declared.verify.verified.Verified.{Verified}
use Rattle.run_steps.specs.declared.verify.fault.VerifyFault.{VerifyFault}
use Rattle.run_steps.specs.declared.verify.fault.VerifyFault.TheVariants.{Stopped, Already, Behind, NotReady, Differs, Memory}
use Rattle.run_steps.specs.verify.Spelled.{Said}
use Rattle.run_steps.specs.verify.Unsaid.{IsUnsaid}
use Rattle.run_steps.specs.verify.Shown.{mover, shown_node, shown_round, shown_state, AllAgree, DiffersFirst}

-- some value is given
abbrev pub has_value : Entry → Bool
has_value e = list_any is_some e.given.values

-- these lines hold: each says the entry at its place, and there are as many; their steps are a run of the count machine from the plan's start to these counts, each
-- answered Taken or Moved; and each value is that of the lockstep state which its step shows
pub record Holds (plan : PlanView) (names : Option (List (List ℕ))) (told : List (ℕ × List ℕ)) (entries : List Entry) (counts : Counts) : Type 0 where
  pub said : AllZip (Said plan names) told entries
  pub run : LeadTo plan most_rounds counts (map (λ e. e.step) entries)
  pub agree : AllAgree plan (at_start plan.network plan.start) entries

-- the text holds: its lines that say something do
abbrev pub HoldsAs : PlanView → Option (List (List ℕ)) → List ℕ → List Entry → Counts → Type 0
HoldsAs plan names text entries counts = Holds plan names (told_from 1 text) entries counts

-- what is found of a text that holds: how many entries there are, how many of them give a value, and the counts at the end
pub record IsFound (plan : PlanView) (names : Option (List (List ℕ))) (text : List ℕ) (found : Verified) : Type 0 where
  pub entries : List Entry
  pub counts : Counts
  pub holds : HoldsAs plan names text entries counts
  pub lines : found.lines ≡ length entries
  pub valued : found.valued ≡ count_by has_value entries
  pub moves : found.counts.items ≡ counts.moves

-- the first slot of u that is not marked is that of v
pub record IsFirstUnread (network : Neighbours) (c : Counts) (u v : ℕ) : Type 0 where
  pub slot : ℕ
  pub within : slot < degree network u
  pub whose : v ≡ neighbour network u slot
  pub unread : is_marked c u slot ≡ false
  pub first : (i : ℕ) → i < slot → is_marked c u i ≡ true

-- why the count machine does not take a step at these counts
abbrev pub IsRefusal : Neighbours → Counts → ℕ → Step → VerifyFault → Type 0
IsRefusal network c here step (Stopped line u) = (line ≡ here) × (u ≡ mover step) × (answer_of network most_rounds c step ≡ answer.Stopped)
IsRefusal network c here step (Already line u v) =
    (line ≡ here) × (u ≡ mover step) × (v ≡ shown_node network step) × (answer_of network most_rounds c step ≡ answer.Already)
IsRefusal network c here step (Behind line u v own other) =
    (line ≡ here) × (u ≡ mover step) × (v ≡ shown_node network step) × (own ≡ moves_of c u) × (other ≡ moves_of c v)
    × (answer_of network most_rounds c step ≡ answer.Behind)
IsRefusal network c here step (NotReady line u v) =
    (line ≡ here) × (u ≡ mover step) × IsFirstUnread network c u v × (answer_of network most_rounds c step ≡ answer.NotReady)
IsRefusal network c here step fault = ⊥

-- why a line that says an entry does not hold at these counts: its step is refused, or it shows a state with another value: of the fields
-- with such a value the first is named, with the value that is given and the one that is due
abbrev pub IsUnheld : PlanView → Counts → ℕ → Entry → VerifyFault → Type 0
IsUnheld plan c here e (Differs line by u count t field given due) =
    (line ≡ here) × (by ≡ mover e.step) × (u ≡ shown_node plan.network e.step) × (count ≡ moves_of c u) × (t ≡ shown_round c e.step) × DiffersFirst e.given (shown_state plan c e.step) field given
    × (due ≡ slice_index (shown_state plan c e.step).words field) × IsTrue (is_change (answer_of plan.network most_rounds c e.step))
IsUnheld plan c here e fault = IsRefusal plan.network c here e.step fault

-- why a line does not hold at these counts: it says nothing, or its entry does not hold
abbrev pub IsLineFault : PlanView → Option (List (List ℕ)) → Counts → ℕ × List ℕ → VerifyFault → Type 0
IsLineFault plan names c here fault =
    IsUnsaid plan names here fault ⊎ ((e : Entry) × Said plan names here e × IsUnheld plan c here.0 e fault)

-- of these lines those before one hold, and that one does not behind them
pub record IsFirstBadLine (plan : PlanView) (names : Option (List (List ℕ))) (told : List (ℕ × List ℕ)) (fault : VerifyFault) : Type 0 where
  pub earlier : List (ℕ × List ℕ)
  pub here : ℕ × List ℕ
  pub later : List (ℕ × List ℕ)
  pub all : told ≡ earlier ++ here ∷ later
  pub entries : List Entry
  pub counts : Counts
  pub holds : Holds plan names earlier entries counts
  pub why : IsLineFault plan names counts here fault

-- why a text does not hold, but for running out of memory
abbrev pub IsRefused : PlanView → Option (List (List ℕ)) → List ℕ → VerifyFault → Type 0
IsRefused plan names text fault = fault ≢ Memory → IsFirstBadLine plan names (told_from 1 text) fault
