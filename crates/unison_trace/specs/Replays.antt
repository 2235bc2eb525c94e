-- What a replay writes.
use Rattle.std.specs.Prelude.{◌≡◌, ℕ, ◌≤◌, codes, List, [], ◌∷◌, ◌++◌, length, Ok}
use Rattle.std.specs.Fmt.{decimal}
use Rattle.std.specs.List.{flat_map}
use Rattle.rule_check.specs.Value.{names_of}
use Rattle.link_net.specs.Neighbours.{numbers_below}
use Rattle.rounds_plan.specs.Lockstep.{lockstep}
use Rattle.rounds_plan.specs.Plans.{PlanView}
use Rattle.report_text.specs.Report.{fields_text}
use Rattle.unison_world.specs.declared.step.Step.{Step}
use Rattle.unison_world.specs.Counting.{Counts, moves_of}
use Rattle.unison_world.specs.Opening.{opening_of}
use Rattle.unison_world.specs.View.{opened}
use Rattle.unison_trace.specs.Histories.{most_steps, run_of}
use Rattle.unison_trace.specs.Schedules.{HasSteps}

-- the line of a node: its number, ` moves `, its count, and the fields of the lockstep state of that count
abbrev pub replay_line : PlanView → Counts → ℕ → List ℕ
replay_line plan counts u =
    decimal u ++ (codes " moves " ++ (decimal (moves_of counts u) ++ (fields_text (names_of plan.program) (lockstep plan (moves_of counts u) u).words ++ 10 ∷ [])))

-- the Replay report of a count state: for each node by rising number its line
abbrev pub replay_text : PlanView → Counts → List ℕ
replay_text plan counts = flat_map (replay_line plan counts) (numbers_below (length plan.network))

-- the report is that of the Run of the steps that the text has
pub record IsReplayOf (plan : PlanView) (stop : ℕ) (text report : List ℕ) : Type 0 where
  pub steps : List Step
  pub schedule : HasSteps text steps
  pub few : length steps ≤ most_steps
  pub opens : opening_of plan stop ≡ Ok (opened plan stop)
  pub shows : report ≡ replay_text plan (run_of plan stop steps)
