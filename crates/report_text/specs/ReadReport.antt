-- Which configuration a report text is of, and where a text is none.
use Rattle.std.specs.Prelude.{◌≡◌, ◌≤◌, ◌<◌, ℕ, ◌+◌, ◌-◌, ◌^◌, List, [], length, replicate, All, Option, slice_get, Result, Ok, Err, nat_lt, if◌then◌else◌}
use Rattle.rule_check.specs.declared.state.State.{State}
use Rattle.rule_check.specs.Value.{Rules, names_of}
use Rattle.report_text.specs.declared.fault.ReportFault.{ReportFault}
use Rattle.report_text.specs.declared.fault.ReportFault.TheVariants.{BadLine, TooManyRounds, Memory}
use Rattle.rounds_plan.specs.Configs.{Configuration, IsPlain, most_rounds}
use Rattle.rounds_plan.specs.Plans.{PlanView}
use Rattle.report_text.specs.Report.{report_text}
use Rattle.report_text.specs.Lines.{lines_of}

-- a state of a program with so many fields: eight words below 2 ^ 32, those after the fields 0
pub record IsStateOf (fields : ℕ) (state : State) : Type 0 where
  pub count : length state.words ≡ 8
  pub small : All (λ w. w < 2 ^ 32) state.words
  pub plain : IsPlain fields state

-- a plan of the program on so many nodes: whether a text is a report of a plan depends on its fields and the number of its nodes alone, not on its links, its initial states and its start
abbrev pub plan_on : Rules → ℕ → PlanView
plan_on program nodes = record { program = program; network = replicate nodes []; phase = 0; opening = []; start = 0 }

-- a configuration with as many nodes and fields as the plan has, and a round below 2 ^ 32
pub record HasShape (p : PlanView) (c : Configuration) : Type 0 where
  pub round : c.rounds < 2 ^ 32
  pub fields : c.fields ≡ length p.program.fields
  pub nodes : length c.states ≡ length p.network
  pub states : All (IsStateOf (length p.program.fields)) c.states

-- the text is the report of this configuration, which has the plan's shape
pub record IsReportOf (p : PlanView) (bytes : List ℕ) (c : Configuration) : Type 0 where
  pub shape : HasShape p c
  pub text : bytes ≡ report_text (names_of p.program) c

-- what stands at a place of a text, a line or nothing, stands at that place in a report text of the plan's shape; places count from 0
pub record FitsAt (p : PlanView) (place : ℕ) (here : Option (List ℕ)) : Type 0 where
  pub other : Configuration
  pub shape : HasShape p other
  pub same : slice_get (lines_of (report_text (names_of p.program) other)) place ≡ here

-- the line with this number, counted from 1, is the first that can't stand at its place, or the first that is missing
pub record IsFirstBadLine (p : PlanView) (text : List ℕ) (number : ℕ) : Type 0 where
  pub counted : 1 ≤ number
  pub before : (place : ℕ) → place + 1 < number → FitsAt p place (slice_get (lines_of text) place)
  pub bad : FitsAt p (number - 1) (slice_get (lines_of text) (number - 1)) → ⊥

-- the configuration of a report, where its round is within the limit
abbrev pub within_limit : Configuration → Result Configuration ReportFault
within_limit c = if nat_lt most_rounds c.rounds then Err TooManyRounds else Ok c

-- why a text is refused; a round too large comes with a report text of the plan's shape
abbrev pub IsRefusedReport : PlanView → List ℕ → ReportFault → Type 0
IsRefusedReport p text (BadLine line) = IsFirstBadLine p text line
IsRefusedReport p text TooManyRounds = (c : Configuration) × IsReportOf p text c × (most_rounds < c.rounds)
IsRefusedReport p text Memory = Unit {0}
