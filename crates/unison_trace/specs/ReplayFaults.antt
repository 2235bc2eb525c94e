-- Why there is no replay, and what was read and written.
use Rattle.std.specs.Prelude.{◌≡◌, ◌≢◌, ℕ, ◌≤◌, Bool, true, false, List, take, length, Option, Result, Err}
use Rattle.std.specs.Io.KnownBytes.{Appends, Consumes, IsAtEnd}
use Rattle.rounds_plan.specs.Plans.{PlanView}
use Rattle.unison_world.specs.declared.step.Step.{Step}
use Rattle.unison_world.specs.declared.fault.OpenFault.{OpenFault}
use Rattle.unison_world.specs.declared.fault.OpenFault.TheVariants as opening
use Rattle.unison_world.specs.Opening.{opening_of}
use Rattle.unison_trace.specs.declared.fault.ScheduleFault.{ScheduleFault}
use Rattle.unison_trace.specs.declared.fault.ScheduleFault.TheVariants as schedule
use Rattle.unison_trace.specs.declared.fault.ReplayFault.{ReplayFault}
use Rattle.unison_trace.specs.declared.fault.ReplayFault.TheVariants.{Read, TooManyTurns, Schedule, Opening, Write, Memory}
use Rattle.unison_trace.specs.Histories.{most_steps}
use Rattle.unison_trace.specs.Schedules.{HasSteps, IsRefusedSchedule}
use Rattle.unison_trace.specs.Replays.{IsReplayOf}

-- a schedule's fault inside a replay
abbrev pub from_schedule : ScheduleFault → ReplayFault
from_schedule schedule.Memory = Memory
from_schedule fault = Schedule fault

-- an opening's fault inside a replay
abbrev pub from_opening : OpenFault → ReplayFault
from_opening opening.Memory = Memory
from_opening fault = Opening fault

-- why a text gives no report: it is no schedule, or else its steps have no world
abbrev pub IsRefusedText : PlanView → ℕ → List ℕ → ReplayFault → Type 0
IsRefusedText plan stop text (Schedule fault) = (fault ≢ schedule.Memory) × IsRefusedSchedule text fault
IsRefusedText plan stop text (Opening fault) = (fault ≢ opening.Memory) × (opening_of plan stop ≡ Err fault) × ((steps : List Step) × HasSteps text steps × (length steps ≤ most_steps))
IsRefusedText plan stop text Memory = Unit {0}
IsRefusedText plan stop text Read = ⊥
IsRefusedText plan stop text TooManyTurns = ⊥
IsRefusedText plan stop text (Write written) = ⊥

-- the text is all that the reader gave, up to the end of its input
pub record IsInput (had left : Option (List ℕ)) (text : List ℕ) : Type 0 where
  pub given : Consumes had left text
  pub whole : IsAtEnd left

-- how many reads are made at most; as many as give bytes are too many
abbrev pub too_many_reads : ℕ
too_many_reads = 27000001

-- so many reads gave bytes, each at least one
pub record IsTooLong (had left : Option (List ℕ)) : Type 0 where
  pub text : List ℕ
  pub given : Consumes had left text
  pub long : too_many_reads ≤ length text

-- why the input isn't read to its end
abbrev pub IsInputFault : Option (List ℕ) → Option (List ℕ) → ReplayFault → Type 0
IsInputFault had left Read = Unit {0}
IsInputFault had left TooManyTurns = IsTooLong had left
IsInputFault had left Memory = Unit {0}
IsInputFault had left fault = ⊥

-- the report of the text that was read is what was written
pub record IsReplayed (plan : PlanView) (stop : ℕ) (had left held holds : Option (List ℕ)) : Type 0 where
  pub text : List ℕ
  pub input : IsInput had left text
  pub report : List ℕ
  pub replay : IsReplayOf plan stop text report
  pub output : Appends held holds report

-- only the first so many bytes of that report were written
pub record IsCut (plan : PlanView) (stop : ℕ) (had left held holds : Option (List ℕ)) (written : ℕ) : Type 0 where
  pub text : List ℕ
  pub input : IsInput had left text
  pub report : List ℕ
  pub replay : IsReplayOf plan stop text report
  pub part : written ≤ length report
  pub output : Appends held holds (take written report)

-- the text that was read gives no report
pub record IsRefusedInput (plan : PlanView) (stop : ℕ) (had left : Option (List ℕ)) (fault : ReplayFault) : Type 0 where
  pub text : List ℕ
  pub input : IsInput had left text
  pub refused : IsRefusedText plan stop text fault

-- what each fault says; that the reader failed its mark tells
abbrev pub IsReplayFault : PlanView → ℕ → Option (List ℕ) → Option (List ℕ) → Option (List ℕ) → Option (List ℕ) → ReplayFault → Type 0
IsReplayFault plan stop had left held holds (Schedule fault) = IsRefusedInput plan stop had left (Schedule fault)
IsReplayFault plan stop had left held holds (Opening fault) = IsRefusedInput plan stop had left (Opening fault)
IsReplayFault plan stop had left held holds (Write written) = IsCut plan stop had left held holds written
IsReplayFault plan stop had left held holds TooManyTurns = IsTooLong had left
IsReplayFault plan stop had left held holds Read = Unit {0}
IsReplayFault plan stop had left held holds Memory = Unit {0}

-- whether the answer is that a part alone was written
abbrev pub is_cut : Result (Unit {0}) ReplayFault → Bool
is_cut (Err (Write written)) = true
is_cut answer = false
