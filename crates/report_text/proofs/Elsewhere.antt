-- Whether a text is a report of a plan depends on the plan's program and the number of its nodes alone.
use Rattle.std.proofs.Common.{◌≡◌, ◌∙◌, ◌-◌, ℕ, List, [], All, Option, ap, length, slice_get, subst, sym}
use Rattle.std.proofs.lemmas.List.{length-replicate}
use Rattle.rule_check.specs.declared.state.State.{State}
use Rattle.rule_check.specs.Value.{Rules, names_of}
use Rattle.rounds_plan.specs.Configs.{Configuration}
use Rattle.rounds_plan.specs.Plans.{PlanView}
use Rattle.report_text.specs.declared.fault.ReportFault.{ReportFault}
use Rattle.report_text.specs.declared.fault.ReportFault.TheVariants.{BadLine, TooManyRounds, Memory}
use Rattle.report_text.specs.Lines.{lines_of}
use Rattle.report_text.specs.ReadReport.{FitsAt, HasShape, IsFirstBadLine, IsRefusedReport, IsReportOf, IsStateOf, plan_on}
use Rattle.report_text.specs.Report.{report_text}
use Rattle.report_text.proofs.Refusals.{config_same}

pub node_count : (program : Rules) (nodes : ℕ) → nodes ≡ length (plan_on program nodes).network
node_count program nodes = sym (length-replicate {A = List (ℕ × ℕ)} nodes [])

module _ (p q : PlanView) (program : p.program ≡ q.program) (nodes : length p.network ≡ length q.network) where
  shape_there : (c : Configuration) → HasShape p c → HasShape q c
  shape_there c shape = record {
    round = shape.round;
    fields = shape.fields ∙ ap (λ (r : Rules). length r.fields) program;
    nodes = shape.nodes ∙ nodes;
    states = subst (λ (r : Rules). All (IsStateOf (length r.fields)) c.states) program shape.states;
  }

  report_there : (text : List ℕ) (c : Configuration) → IsReportOf p text c → IsReportOf q text c
  report_there text c report = record {
    shape = shape_there c report.shape;
    text = report.text ∙ ap (λ (r : Rules). report_text (names_of r) c) program;
  }

  fits_there : (place : ℕ) (here : Option (List ℕ)) → FitsAt p place here → FitsAt q place here
  fits_there place here fits = record {
    other = fits.other;
    shape = shape_there fits.other fits.shape;
    same = ap (λ (r : Rules). slice_get (lines_of (report_text (names_of r) fits.other)) place) (sym program) ∙ fits.same;
  }

bad_line_there : (p q : PlanView) → p.program ≡ q.program → length p.network ≡ length q.network → (text : List ℕ) (number : ℕ) → IsFirstBadLine p text number → IsFirstBadLine q text number
bad_line_there p q program nodes text number first = record {
  counted = first.counted;
  before = λ place early. fits_there p q program nodes place (slice_get (lines_of text) place) (first.before place early);
  bad = λ fits. first.bad (fits_there q p (sym program) (sym nodes) (number - 1) (slice_get (lines_of text) (number - 1)) fits);
}

refused_there : (p q : PlanView) → p.program ≡ q.program → length p.network ≡ length q.network → (text : List ℕ) (fault : ReportFault) → IsRefusedReport p text fault → IsRefusedReport q text fault
refused_there p q program nodes text (BadLine line) refused = bad_line_there p q program nodes text line refused
refused_there p q program nodes text TooManyRounds refused = (refused.0, report_there p q program nodes text refused.0 refused.1, refused.2)
refused_there p q program nodes text Memory refused = tt

-- a plan, and the plan of its program on as many nodes
module _ (p : PlanView) (program : Rules) (nodes : ℕ) (same : program ≡ p.program) (count : nodes ≡ length p.network) where
  far : length (plan_on program nodes).network ≡ length p.network
  far = sym (node_count program nodes) ∙ count

  pub report_of_plan : (text : List ℕ) (c : Configuration) → IsReportOf (plan_on program nodes) text c → IsReportOf p text c
  report_of_plan text c report = report_there (plan_on program nodes) p same far text c report

  pub report_on_nodes : (text : List ℕ) (c : Configuration) → IsReportOf p text c → IsReportOf (plan_on program nodes) text c
  report_on_nodes text c report = report_there p (plan_on program nodes) (sym same) (sym far) text c report

  pub bad_line_on_nodes : (text : List ℕ) (number : ℕ) → IsFirstBadLine p text number → IsFirstBadLine (plan_on program nodes) text number
  bad_line_on_nodes text number first = bad_line_there p (plan_on program nodes) (sym same) (sym far) text number first

  pub refused_of_plan : (text : List ℕ) (fault : ReportFault) → IsRefusedReport (plan_on program nodes) text fault → IsRefusedReport p text fault
  refused_of_plan text fault refused = refused_there (plan_on program nodes) p same far text fault refused

  -- the configuration of the plan with what was read is what was read
  pub config_read : (text : List ℕ) (read : Configuration) (rounds : ℕ) (states : List State) → IsReportOf (plan_on program nodes) text read → rounds ≡ read.rounds → states ≡ read.states
      → ◌≡◌ {A = Configuration} (record { rounds = rounds; fields = length p.program.fields; states = states }) read
  config_read text read rounds states report at are = config_same read rounds (length p.program.fields) states at (sym (report_of_plan text read report).shape.fields) are
