-- Why a text says no steps.
use Rattle.std.specs.Prelude.{◌≡◌, ◌≢◌, replicate, ◌⊎◌, ◌<◌, ◌≤◌, ℕ, ◌+◌, max, List, ◌∷◌, ◌++◌, length, map, slice_get, Option, Some}
use Rattle.std.specs.List.{repeat}
use Rattle.import_lines.specs.Texts.{told_from}
use Rattle.link_net.specs.Neighbours.{Neighbours}
use Rattle.unison_world.specs.declared.step.Step.{Step}
use Rattle.unison_trace.specs.Histories.{most_steps}
use Rattle.run_steps.specs.declared.script.line.Line.{Line}
use Rattle.run_steps.specs.declared.script.line.Line.TheVariants.{Act, Repeat, End}
use Rattle.run_steps.specs.declared.script.fault.StepTextFault.{StepTextFault}
use Rattle.run_steps.specs.declared.script.fault.StepTextFault.TheVariants.{TooDeep, EndWithoutRepeat, TooManySteps, RepeatWithoutEnd, Memory}
use Rattle.run_steps.specs.script.Spelled.{Said}
use Rattle.run_steps.specs.script.Unsaid.{IsUnsaid}
use Rattle.run_steps.specs.script.Texts.{Parts, lines_of, steps_of, made_by, depth_of, most_deep, AreSaid}

-- how texts begin: whole parts; or a beginning, a repeat behind it that is still open, its count, and the parts inside it so far
pub data Beginning : Type 0 where
  whole : (parts : Parts) → Beginning
  inside : (outer : Beginning) (count : ℕ) (parts : Parts) → Beginning

-- its lines
abbrev pub begun_lines : Beginning → List Line
begun_lines (whole parts) = lines_of parts
begun_lines (inside outer count parts) = begun_lines outer ++ Repeat count ∷ lines_of parts

-- its steps, where what stands in a repeat that is still open comes once
abbrev pub begun_steps : Neighbours → Beginning → List Step
begun_steps network (whole parts) = steps_of network parts
begun_steps network (inside outer count parts) = begun_steps network outer ++ steps_of network parts

-- how many repeats are open
abbrev pub open_in : Beginning → ℕ
open_in (whole parts) = 0
open_in (inside outer count parts) = open_in outer + 1

-- how many repeats stand inside each other, at most
abbrev pub begun_depth : Beginning → ℕ
begun_depth (whole parts) = depth_of parts
begun_depth (inside outer count parts) = max (begun_depth outer) (open_in outer + 1 + depth_of parts)

-- every beginning is the front of a whole text: behind its lines so many `}` can stand as repeats are open
abbrev pub BeginningsEnd : Type 0
BeginningsEnd = (b : Beginning) → (parts : Parts) × (lines_of parts ≡ begun_lines b ++ replicate (open_in b) End)

-- lines that stand: they begin a text, repeats are nested no deeper than they may be, and there are no more steps than may be
pub record Stand (network : Neighbours) (names : Option (List (List ℕ))) (told : List (ℕ × List ℕ)) (b : Beginning) : Type 0 where
  pub lines : AreSaid network names told (begun_lines b)
  pub deep : begun_depth b ≤ most_deep
  pub few : length (begun_steps network b) ≤ most_steps

-- a `}` behind a beginning makes more steps than may be: with the repeats that it ends
abbrev pub EndsTooMuch : Neighbours → Beginning → Type 0
EndsTooMuch network (whole parts) = ⊥
EndsTooMuch network (inside outer count parts) = most_steps < length (begun_steps network outer ++ repeat count (steps_of network parts))

-- with this line after a beginning there are more steps than may be
abbrev pub IsTooMuch : Neighbours → Beginning → Line → Type 0
IsTooMuch network b (Act action) = most_steps < length (begun_steps network b ++ made_by network action)
IsTooMuch network b (Repeat count) = ⊥
IsTooMuch network b End = EndsTooMuch network b

-- why a line that says something can't stand after a beginning: it opens one repeat too many, it ends none, or it makes too many steps
abbrev pub IsMisplaced : Neighbours → Option (List (List ℕ)) → Beginning → ℕ × List ℕ → StepTextFault → Type 0
IsMisplaced network names b here (TooDeep line) = (line ≡ here.0) × ((count : ℕ) × Said network names here (Repeat count)) × (open_in b ≡ most_deep)
IsMisplaced network names b here (EndWithoutRepeat line) = (line ≡ here.0) × Said network names here End × (open_in b ≡ 0)
IsMisplaced network names b here (TooManySteps line) = (line ≡ here.0) × ((line : Line) × Said network names here line × IsTooMuch network b line)
IsMisplaced network names b here fault = ⊥

-- why a line is bad behind a beginning: it says nothing, or it can't stand there
abbrev pub IsLineFault : Neighbours → Option (List (List ℕ)) → Beginning → ℕ × List ℕ → StepTextFault → Type 0
IsLineFault network names b here fault = IsUnsaid network names here fault ⊎ IsMisplaced network names b here fault

-- of these lines those before one stand, and that one is bad behind them
pub record IsFirstBadLine (network : Neighbours) (names : Option (List (List ℕ))) (told : List (ℕ × List ℕ)) (fault : StepTextFault) : Type 0 where
  pub earlier : List (ℕ × List ℕ)
  pub here : ℕ × List ℕ
  pub later : List (ℕ × List ℕ)
  pub all : told ≡ earlier ++ here ∷ later
  pub begun : Beginning
  pub stand : Stand network names earlier begun
  pub why : IsLineFault network names begun here fault

-- these lines stand, but a repeat is open at their end, and the fault names the line of the last that is
pub record IsUnclosed (network : Neighbours) (names : Option (List (List ℕ))) (told : List (ℕ × List ℕ)) (fault : StepTextFault) : Type 0 where
  pub outer : Beginning
  pub count : ℕ
  pub parts : Parts
  pub stand : Stand network names told (inside outer count parts)
  pub line : ℕ
  pub place : slice_get (map (λ l. l.0) told) (length (begun_lines outer)) ≡ Some line
  pub names_it : fault ≡ RepeatWithoutEnd line

-- why a text says no steps, but for running out of memory: a line is bad, or at its end a repeat is open
abbrev pub IsRefused : Neighbours → Option (List (List ℕ)) → List ℕ → StepTextFault → Type 0
IsRefused network names text fault = fault ≢ Memory → IsFirstBadLine network names (told_from 1 text) fault ⊎ IsUnclosed network names (told_from 1 text) fault
