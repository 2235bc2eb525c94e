-- The steps that a text says.
use Rattle.std.specs.Prelude.{◌≡◌, ℕ, ◌+◌, ◌≤◌, max, List, [], ◌∷◌, ◌++◌, length, map, Option}
use Rattle.std.specs.List.{AllZip, flat_map, repeat}
use Rattle.import_lines.specs.Texts.{told_from}
use Rattle.link_net.specs.Neighbours.{Neighbours, degree, numbers_below}
use Rattle.unison_world.specs.declared.step.Step.{Step}
use Rattle.unison_world.specs.declared.step.Step.TheVariants.{Read, Write}
use Rattle.unison_trace.specs.Histories.{most_steps}
use Rattle.run_steps.specs.declared.script.action.Action.{Action}
use Rattle.run_steps.specs.declared.script.action.Action.TheVariants.{ReadSlot, ReadAll, Move, Turn, Sweep}
use Rattle.run_steps.specs.declared.script.line.Line.{Line}
use Rattle.run_steps.specs.declared.script.line.Line.TheVariants.{Act, Repeat, End}
use Rattle.run_steps.specs.script.Spelled.{Said}

-- the most repeats that may stand inside each other
abbrev pub most_deep : ℕ
most_deep = 64

-- all slots of a node read by rising number
abbrev pub reads_of : Neighbours → ℕ → List Step
reads_of network u = map (λ j. Read u j) (numbers_below (degree network u))

-- a turn of a node: all its slots are read, and then it moves
abbrev pub turn_of : Neighbours → ℕ → List Step
turn_of network u = reads_of network u ++ Write u ∷ []

-- the steps of an action; a sweep is a turn of each node by rising number
abbrev pub made_by : Neighbours → Action → List Step
made_by network (ReadSlot u j) = Read u j ∷ []
made_by network (ReadAll u) = reads_of network u
made_by network (Move u) = Write u ∷ []
made_by network (Turn u) = turn_of network u
made_by network Sweep = flat_map (turn_of network) (numbers_below (length network))

-- the parts of a text: none; an action, and the parts behind it; or parts that are repeated, how many times in all, and the parts behind them
pub data Parts : Type 0 where
  none : Parts
  act : (action : Action) (rest : Parts) → Parts
  again : (count : ℕ) (body rest : Parts) → Parts

-- the lines of parts: one for an action; one before and one behind what is repeated
abbrev pub lines_of : Parts → List Line
lines_of none = []
lines_of (act action rest) = Act action ∷ lines_of rest
lines_of (again count body rest) = Repeat count ∷ lines_of body ++ End ∷ lines_of rest

-- the steps of parts, in order
abbrev pub steps_of : Neighbours → Parts → List Step
steps_of network none = []
steps_of network (act action rest) = made_by network action ++ steps_of network rest
steps_of network (again count body rest) = repeat count (steps_of network body) ++ steps_of network rest

-- how many repeats stand inside each other, at most
abbrev pub depth_of : Parts → ℕ
depth_of none = 0
depth_of (act action rest) = depth_of rest
depth_of (again count body rest) = max (depth_of body + 1) (depth_of rest)

-- each told line says the line at its place, and there are as many
abbrev pub AreSaid : Neighbours → Option (List (List ℕ)) → List (ℕ × List ℕ) → List Line → Type 0
AreSaid network names told lines = AllZip (Said network names) told lines

-- the text says these steps: its lines, but for those that say nothing, are the lines of some parts whose steps these are
pub record Says (network : Neighbours) (names : Option (List (List ℕ))) (text : List ℕ) (steps : List Step) : Type 0 where
  pub parts : Parts
  pub lines : AreSaid network names (told_from 1 text) (lines_of parts)
  pub made : steps ≡ steps_of network parts
  pub deep : depth_of parts ≤ most_deep
  pub few : length steps ≤ most_steps
