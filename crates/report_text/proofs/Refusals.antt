-- What reading the lines of nodes says of the whole report.
use Rattle.std.proofs.Common.{◌≡◌, ℕ, ◌<◌, ◌≤◌, ◌^◌, List, ◌++◌, length, refl, sym, ap, subst, ◌∙◌, arith, All, true, false, nat_lt, Result, Ok, Err}
use Rattle.std.specs.Result.{IsErrAnd, IfErr}
use Rattle.std.proofs.lemmas.Bool.Decides.{nat_tests}
use Rattle.rule_check.specs.declared.state.State.{State}
use Rattle.rule_check.specs.Value.{names_of}
use Rattle.rule_check.specs.WellFormed.{IsFieldName}
use Rattle.report_text.specs.declared.fault.ReportFault.{ReportFault}
use Rattle.report_text.specs.declared.fault.ReportFault.TheVariants.{BadLine, TooManyRounds, Memory}
use Rattle.rounds_plan.specs.Configs.{Configuration, most_rounds}
use Rattle.rounds_plan.specs.Plans.{PlanView}
use Rattle.report_text.specs.Report.{round_line}
use Rattle.report_text.specs.ReadReport.{IsReportOf, IsRefusedReport, within_limit}
use Rattle.rounds_plan.specs.Answer.{IsAnswer}
use Rattle.report_text.specs.NodeLines.{HasNodeLines, IsStopped}
use Rattle.report_text.proofs.BadLines.{first_bad}
use Rattle.report_text.proofs.ReportOnce.{round_first, never_stops, states_same}
use Rattle.rounds_plan.proofs.Names.{name_count}
use Rattle.report_text.proofs.FieldNames.{names_in_line}

-- a configuration is its parts
pub config_same : (c : Configuration) (t fields : ℕ) (states : List State) → t ≡ c.rounds → fields ≡ c.fields → states ≡ c.states → ◌≡◌ {A = Configuration} (record { rounds = t; fields = fields; states = states }) c
config_same c t fields states first second third =
    ap (λ r. record { rounds = r; fields = fields; states = states }) first
    ∙ ap (λ f. record { rounds = c.rounds; fields = f; states = states }) second
    ∙ ap (λ ss. record { rounds = c.rounds; fields = c.fields; states = ss }) third

-- which side of the limit a round is on
pub low_round : (c : Configuration) → c.rounds ≤ most_rounds → within_limit c ≡ Ok c
low_round c low = let no : nat_lt most_rounds c.rounds ≡ false = grind (arith, nat_tests) in rw no

pub high_round : (c : Configuration) → most_rounds < c.rounds → within_limit c ≡ Err TooManyRounds
high_round c high = let yes : nat_lt most_rounds c.rounds ≡ true = grind (arith, nat_tests) in rw yes

module _ (p : PlanView) (few : length p.program.fields ≤ 8) (text lines : List ℕ) (t : ℕ) (small : t < 2 ^ 32) (cut : text ≡ round_line t ++ lines) where
  -- the lines of all nodes after the round's are a report
  pub is_report : (states : List State) → HasNodeLines (names_of p.program) (length p.program.fields) (length p.network) lines states → IsReportOf p text (record { rounds = t; fields = length p.program.fields; states = states })
  is_report states has = record {
    shape = record { round = small; fields = refl; nodes = has.count; states = has.fit };
    text = cut ∙ ap (λ ls. round_line t ++ ls) has.text;
  }

  -- and it is the only configuration's
  pub only_report : (states : List State) (c : Configuration) → HasNodeLines (names_of p.program) (length p.program.fields) (length p.network) lines states → IsReportOf p text c → ◌≡◌ {A = Configuration} (record { rounds = t; fields = length p.program.fields; states = states }) c
  only_report states c has report =
      let first = round_first p text lines t c cut small report in
      config_same c t (length p.program.fields) states first.0 (sym report.shape.fields)
      (states_same (names_of p.program) (length p.program.fields) (name_count p.program) few (length p.network) lines states c.states has report.shape.nodes report.shape.states first.1)

  memory_alone : (fault : ReportFault) → IsStopped (names_of p.program) (length p.program.fields) (length p.network) lines fault → (c : Configuration) → IsReportOf p text c → fault ≡ Memory
  memory_alone (BadLine line) stop c report =
      let first = round_first p text lines t c cut small report in
      absurd (never_stops (names_of p.program) (length p.program.fields) (name_count p.program) few (length p.network) lines line c.states stop report.shape.nodes report.shape.states first.1)
  memory_alone TooManyRounds stop c report = absurd stop
  memory_alone Memory stop c report = refl

  -- the lines of a report's nodes are refused for want of memory alone
  pub err_memory : (r : Result Configuration ReportFault) (fault : ReportFault) → IsErrAnd r (λ e. e ≡ fault) → IsStopped (names_of p.program) (length p.program.fields) (length p.network) lines fault → (c : Configuration) → IsReportOf p text c → IsAnswer Memory (within_limit c) r
  err_memory (Ok config) fault is stop c report = absurd is
  err_memory (Err e) fault is stop c report = λ other. absurd (other (is ∙ memory_alone fault stop c report))

  refused : length p.network ≤ 2 ^ 32 → All IsFieldName (names_of p.program) → (fault : ReportFault) → IsStopped (names_of p.program) (length p.program.fields) (length p.network) lines fault → IsRefusedReport p text fault
  refused narrow names (BadLine line) stop = first_bad p few narrow (names_in_line (names_of p.program) names) text lines t line small cut stop
  refused narrow names TooManyRounds stop = absurd stop
  refused narrow names Memory stop = tt

  -- why a text with a round's line is refused
  pub err_refused : length p.network ≤ 2 ^ 32 → All IsFieldName (names_of p.program) → (r : Result Configuration ReportFault) (fault : ReportFault) → IsErrAnd r (λ e. e ≡ fault) → IsStopped (names_of p.program) (length p.program.fields) (length p.network) lines fault → IfErr r (IsRefusedReport p text)
  err_refused narrow names (Ok config) fault is stop = tt
  err_refused narrow names (Err e) fault is stop = subst (IsRefusedReport p text) (sym is) (refused narrow names fault stop)
