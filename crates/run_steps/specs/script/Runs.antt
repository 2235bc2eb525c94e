-- How a text is read: line by line, with the repeats that are open. The clauses of private functions speak of this; what it is for stands in Texts and Refusals.
use Rattle.std.specs.Prelude.{◌≡◌, ◌≢◌, ℕ, ◌-◌, List, [], ◌∷◌, ◌++◌, length, take, drop, nat_le, nat_lt, slice_get, MatchResult, Option, Some, None, Result, Ok, Err, if◌then◌else◌}
use Rattle.std.specs.List.{repeat}
use Rattle.import_lines.specs.Texts.{told_from}
use Rattle.link_net.specs.Neighbours.{Neighbours}
use Rattle.unison_world.specs.declared.step.Step.{Step}
use Rattle.unison_trace.specs.Histories.{most_steps}
use Rattle.run_steps.specs.declared.script.open_repeat.OpenRepeat.{OpenRepeat}
use Rattle.run_steps.specs.declared.script.line.Line.{Line}
use Rattle.run_steps.specs.declared.script.line.Line.TheVariants.{Act, Repeat, End}
use Rattle.run_steps.specs.declared.script.fault.StepTextFault.{StepTextFault}
use Rattle.run_steps.specs.declared.script.fault.StepTextFault.TheVariants.{TooDeep, EndWithoutRepeat, TooManySteps, RepeatWithoutEnd, Memory}
use Rattle.run_steps.specs.script.Meaning.{and_then, line_at}
use Rattle.run_steps.specs.script.Texts.{made_by, most_deep}

-- the steps so far, and the repeats that are open, the last one last
pub record Reading : Type 0 where
  pub steps : List Step
  pub opens : List OpenRepeat

-- nothing is read
abbrev pub unread : Reading
unread = record { steps = []; opens = [] }

-- steps, where there are no more than may be
abbrev pub few_steps : ℕ → List Step → Result (List Step) StepTextFault
few_steps line steps = if nat_le (length steps) most_steps then Ok steps else Err (TooManySteps line)

-- the steps with those since the start of an open repeat as many times more as it says
abbrev pub repeated : List Step → OpenRepeat → List Step
repeated steps last = steps ++ repeat last.again (drop last.start steps)

-- the last of the open repeats, and the others
abbrev pub last_open : List OpenRepeat → Option OpenRepeat
last_open opens = slice_get opens (length opens - 1)

abbrev pub but_last : List OpenRepeat → List OpenRepeat
but_last opens = take (length opens - 1) opens

-- behind a `}`
abbrev pub ended : ℕ → Reading → Option OpenRepeat → Result Reading StepTextFault
ended line r None = Err (EndWithoutRepeat line)
ended line r (Some last) = and_then (few_steps line (repeated r.steps last)) (λ steps. Ok (record { steps = steps; opens = but_last r.opens }))

-- behind a line
unfoldable pub behind_line : Neighbours → ℕ → Reading → Line → Result Reading StepTextFault
behind_line network line r (Act action) = and_then (few_steps line (r.steps ++ made_by network action)) (λ steps. Ok (record { steps = steps; opens = r.opens }))
behind_line network line r (Repeat count) =
    if nat_lt (length r.opens) most_deep
    then Ok (record { steps = r.steps; opens = r.opens ++ (record { line = line; start = length r.steps; again = count - 1 }) ∷ [] })
    else Err (TooDeep line)
behind_line network line r End = ended line r (last_open r.opens)

-- behind a line that is read
abbrev pub behind_told : Neighbours → Option (List (List ℕ)) → Reading → ℕ × List ℕ → Result Reading StepTextFault
behind_told network names r l = and_then (line_at network names l) (λ line. behind_line network l.0 r line)

-- behind all lines
abbrev pub behind_all : Neighbours → Option (List (List ℕ)) → Reading → List (ℕ × List ℕ) → Result Reading StepTextFault
behind_all network names r [] = Ok r
behind_all network names r (l ∷ ls) = and_then (behind_told network names r l) (λ q. behind_all network names q ls)

-- the steps, where no repeat is open
abbrev pub closed : List Step → Option OpenRepeat → Result (List Step) StepTextFault
closed steps None = Ok steps
closed steps (Some last) = Err (RepeatWithoutEnd last.line)

-- the steps of a text, or its fault
abbrev pub read_text : Neighbours → Option (List (List ℕ)) → List ℕ → Result (List Step) StepTextFault
read_text network names text = and_then (behind_all network names unread (told_from 1 text)) (λ r. closed r.steps (last_open r.opens))

-- what was returned, seen by view, is the defined result, or stands for running out of memory
abbrev pub IsAnswer : {A B : Type 0} → (B → A) → Result A StepTextFault → Result B StepTextFault → Type 0
IsAnswer view defined r = MatchResult r (λ x. defined ≡ Ok (view x)) (λ fault. fault ≢ Memory → defined ≡ Err fault)
