-- Why there is no data of a run.
use Rattle.std.specs.Prelude.{◌≡◌, ℕ, ◌+◌, ◌*◌, max, List, length, nat_lt, Option, Some, None, if◌then◌else◌}
use Rattle.std.specs.Option.{option_map, option_or}
use Rattle.rounds_plan.specs.Configs.{most_rounds}
use Rattle.rounds_plan.specs.Plans.{PlanView}
use Rattle.run_watch.specs.Spans.{count_of}
use Rattle.run_watch.specs.Watching.{missing_of}
use Rattle.unison_world.specs.declared.fault.OpenFault.{OpenFault}
use Rattle.unison_world.specs.declared.fault.OpenFault.TheVariants as opening
use Rattle.unison_world.specs.declared.step.Step.{Step}
use Rattle.run_page.specs.declared.fault.PageFault.{PageFault}
use Rattle.run_page.specs.declared.fault.PageFault.TheVariants.{TooManyRounds, RoundsBelowStart, StopTooLarge, StopBelowStart, NoField, TooManyValues, Memory}
use Rattle.run_page.specs.declared.look.Look.{Look}
use Rattle.run_page.specs.declared.look.PageRounds.{PageRounds}
use Rattle.run_page.specs.Pages.{reached, reached_naively}

-- the greatest number of values of a page
abbrev pub most_values : ℕ
most_values = 20000000

-- how many values so many rounds have: one for each node and shown field, and one for each node where no field is shown
abbrev pub values_in : PlanView → Look → ℕ → ℕ
values_in p look rounds = rounds * length p.network * max (length look.fields.now) 1

-- a field that is to be shown and that the program does not have
abbrev pub field_refusal : PlanView → Look → Option PageFault
field_refusal p look = option_map NoField (missing_of (length p.program.fields) look.fields.now)

-- too many values
abbrev pub values_refusal : ℕ → Option PageFault
values_refusal values = if nat_lt most_values values then Some TooManyValues else None

-- why there is no data of rounds, whatever memory there is
unfoldable pub rounds_refusal : PlanView → PageRounds → Option PageFault
rounds_refusal p rounds =
    if nat_lt most_rounds rounds.span.now.last then Some TooManyRounds
    else if nat_lt rounds.span.now.first p.start then Some RoundsBelowStart
    else option_or (field_refusal p rounds.look.now) (values_refusal (values_in p rounds.look.now (count_of rounds.span.now)))

-- the same of steps, of what is known before the first
unfoldable pub opening_refusal : PlanView → ℕ → Look → Option PageFault
opening_refusal p stop look =
    if nat_lt most_rounds stop then Some StopTooLarge
    else if nat_lt stop p.start then Some StopBelowStart
    else field_refusal p look

-- the same of steps: each step is a value too
unfoldable pub steps_refusal : PlanView → ℕ → List Step → Look → Option PageFault
steps_refusal p stop steps look =
    option_or (opening_refusal p stop look) (values_refusal (values_in p look (count_of (reached p stop steps)) + length steps))

-- how many values the states have to which so many steps move nodes
abbrev pub values_written : Look → ℕ → ℕ
values_written look steps = steps * max (length look.fields.now) 1

-- the same of steps that are also made by nodes that do not wait: of each step the state to which it moves its node counts too
unfoldable pub naive_refusal : PlanView → ℕ → List Step → Look → Option PageFault
naive_refusal p stop steps look =
    option_or (opening_refusal p stop look)
    (values_refusal (values_in p look (count_of (reached_naively p stop steps)) + (length steps + values_written look (length steps))))

-- the fault is the one that is defined, or running out of memory, where what is known before memory is taken has none
abbrev pub IsFault : Option PageFault → Option PageFault → PageFault → Type 0
IsFault early all Memory = early ≡ None
IsFault early all fault = all ≡ Some fault

-- why no world was opened
abbrev pub from_opening : OpenFault → PageFault
from_opening opening.StopTooLarge = StopTooLarge
from_opening opening.StopBelowStart = StopBelowStart
from_opening opening.Memory = Memory
