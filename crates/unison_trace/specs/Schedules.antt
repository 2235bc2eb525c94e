-- The text of a schedule: a line for each step.
use Rattle.std.specs.Prelude.{◌≡◌, ◌≢◌, ℕ, ◌+◌, ◌^◌, ◌<◌, codes, List, [], ◌∷◌, ◌++◌, length, map, All}
use Rattle.std.specs.Fmt.{decimal}
use Rattle.report_text.specs.Lines.{lines_of}
use Rattle.unison_world.specs.declared.step.Step.{Step}
use Rattle.unison_world.specs.declared.step.Step.TheVariants.{Read, Write}
use Rattle.unison_trace.specs.declared.fault.ScheduleFault.{ScheduleFault}
use Rattle.unison_trace.specs.declared.fault.ScheduleFault.TheVariants.{BadLine, TooManySteps, Memory}
use Rattle.unison_trace.specs.Histories.{most_steps}

-- the line of a step
abbrev pub line_of : Step → List ℕ
line_of (Read node slot) = codes "read " ++ (decimal node ++ (codes " " ++ (decimal slot ++ 10 ∷ [])))
line_of (Write node) = codes "write " ++ (decimal node ++ 10 ∷ [])

-- the numbers of a step are those of its type
abbrev pub IsStep : Step → Type 0
IsStep (Read node slot) = (node < 2 ^ 32) × (slot < 2 ^ 32)
IsStep (Write node) = node < 2 ^ 32

-- the text has these steps: its lines are theirs, in order
pub record HasSteps (text : List ℕ) (steps : List Step) : Type 0 where
  pub lines : lines_of text ≡ map line_of steps
  pub numbers : All IsStep steps

-- the line with this number, counted from 1, is the first that is no step's
pub record IsFirstBadLine (text : List ℕ) (number : ℕ) : Type 0 where
  pub good : List Step
  pub bad : List ℕ
  pub more : List (List ℕ)
  pub lines : lines_of text ≡ map line_of good ++ bad ∷ more
  pub numbers : All IsStep good
  pub place : number ≡ length good + 1
  pub no_step : (step : Step) → IsStep step → bad ≢ line_of step

-- why a text is refused: a line is no step's, or else there are more steps than may be
abbrev pub IsRefusedSchedule : List ℕ → ScheduleFault → Type 0
IsRefusedSchedule text (BadLine line) = IsFirstBadLine text line
IsRefusedSchedule text TooManySteps = (steps : List Step) × HasSteps text steps × (most_steps < length steps)
IsRefusedSchedule text Memory = Unit {0}
