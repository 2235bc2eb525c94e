use Rattle.std.proofs.Common.{◌≤◌, ◌^◌, ◌∙◌, length, sym, ap, subst, arith, Ok}
use Rattle.rule_check.specs.Value.{names_of}
use Rattle.rounds_plan.specs.Configs.{Configuration}
use Rattle.report_text.specs.NodeLines.{HasNodeLines, IsStopped}
use Rattle.report_text.proofs.ReportOnce.{round_first}
use Rattle.report_text.proofs.BadLines.{bad_round, good_round}
use Rattle.report_text.proofs.Refusals.{is_report, only_report, err_memory, err_refused, low_round, high_round}
use Rattle.report_text.specs.ReadReport.{plan_on}
use Rattle.report_text.proofs.Elsewhere.{node_count}
use Rattle.report_text.proofs.report_reader.read_states.Goals as goal

pub returns-in_default-clause-refused : goal.returns-in_default-clause-refused
returns-in_default-clause-refused c = bad_round (plan_on c.args.program.now c.args.nodes) c.args.text.now c.in_default.ensures

pub returns-in_err-states-clause-every_report : goal.returns-in_err-states-clause-every_report
returns-in_err-states-clause-every_report c report is =
    let program = c.args.program.now in
    let p = plan_on program c.args.nodes in
    let lines = c.in-Some.lines.now in
    let fault = c.in_err-states.field-0.0 in
    let few : length program.fields ≤ 8 = omega (arith, c.field_count-names.ensures.few, c.field_count-names.ensures.count) in
    let stop = subst (λ n. IsStopped (names_of program) (length program.fields) n lines fault) (node_count program c.args.nodes) c.in_err-states.ensures.bad in
    err_memory p few c.args.text.now lines c.in-Some.rounds c.in-Some.ensures.1 c.in-Some.ensures.0 c.from_residual.result fault c.from_residual.ensures.1 stop report is

pub returns-in_err-states-clause-refused : goal.returns-in_err-states-clause-refused
returns-in_err-states-clause-refused c =
    let program = c.args.program.now in
    let p = plan_on program c.args.nodes in
    let lines = c.in-Some.lines.now in
    let fault = c.in_err-states.field-0.0 in
    let few : length program.fields ≤ 8 = omega (arith, c.field_count-names.ensures.few, c.field_count-names.ensures.count) in
    let stop = subst (λ n. IsStopped (names_of program) (length program.fields) n lines fault) (node_count program c.args.nodes) c.in_err-states.ensures.bad in
    let narrow : length p.network ≤ 2 ^ 32 = omega (arith, node_count program c.args.nodes, c.ranges.nodes.fits) in
    err_refused p few c.args.text.now lines c.in-Some.rounds c.in-Some.ensures.1 c.in-Some.ensures.0 narrow c.field_count-names.ensures.names c.from_residual.result fault c.from_residual.ensures.1 stop

pub returns-then-rounds-gt-MOST_ROUNDS-clause-every_report :
    goal.returns-then-rounds-gt-MOST_ROUNDS-clause-every_report
returns-then-rounds-gt-MOST_ROUNDS-clause-every_report c report is =
    let p = plan_on c.args.program.now c.args.nodes in
    let first = round_first p c.args.text.now c.in-Some.lines.now c.in-Some.rounds report c.in-Some.ensures.0 c.in-Some.ensures.1 is in
    λ other. high_round report (omega (arith, first.0))

pub returns-then-rounds-gt-MOST_ROUNDS-clause-refused :
    goal.returns-then-rounds-gt-MOST_ROUNDS-clause-refused
returns-then-rounds-gt-MOST_ROUNDS-clause-refused c =
    let program = c.args.program.now in
    let p = plan_on program c.args.nodes in
    let lines = c.in-Some.lines.now in
    let states = c.in_ok-states.states.items in
    let few : length program.fields ≤ 8 = omega (arith, c.field_count-names.ensures.few, c.field_count-names.ensures.count) in
    let has = subst (λ n. HasNodeLines (names_of program) (length program.fields) n lines states) (node_count program c.args.nodes) c.in_ok-states.ensures.ok in
    (_, is_report p few c.args.text.now lines c.in-Some.rounds c.in-Some.ensures.1 c.in-Some.ensures.0 states has, omega arith)

pub returns-clause-report : goal.returns-clause-report
returns-clause-report c =
    let program = c.args.program.now in
    let p = plan_on program c.args.nodes in
    let lines = c.in-Some.lines.now in
    let states = c.in_ok-states.states.items in
    let few : length program.fields ≤ 8 = omega (arith, c.field_count-names.ensures.few, c.field_count-names.ensures.count) in
    let has = subst (λ n. HasNodeLines (names_of program) (length program.fields) n lines states) (node_count program c.args.nodes) c.in_ok-states.ensures.ok in
    rw c.of.ensures.parts (is_report p few c.args.text.now lines c.in-Some.rounds c.in-Some.ensures.1 c.in-Some.ensures.0 states has, omega arith)

pub returns-clause-every_report : goal.returns-clause-every_report
returns-clause-every_report c report is =
    let program = c.args.program.now in
    let p = plan_on program c.args.nodes in
    let lines = c.in-Some.lines.now in
    let states = c.in_ok-states.states.items in
    let few : length program.fields ≤ 8 = omega (arith, c.field_count-names.ensures.few, c.field_count-names.ensures.count) in
    let has = subst (λ n. HasNodeLines (names_of program) (length program.fields) n lines states) (node_count program c.args.nodes) c.in_ok-states.ensures.ok in
    let same = only_report p few c.args.text.now lines c.in-Some.rounds c.in-Some.ensures.1 c.in-Some.ensures.0 states report has is in
    low_round report (omega (arith, ap (λ (r : Configuration). r.rounds) same)) ∙ ap Ok (sym (c.of.ensures.parts ∙ same))

pub returns-in_err-states-clause-at_once : goal.returns-in_err-states-clause-at_once
returns-in_err-states-clause-at_once c first = absurd (good_round (plan_on c.args.program.now c.args.nodes) c.args.text.now c.in-Some.lines.now c.in-Some.rounds c.in-Some.ensures.1 c.in-Some.ensures.0 first)

pub returns-then-rounds-gt-MOST_ROUNDS-clause-at_once :
    goal.returns-then-rounds-gt-MOST_ROUNDS-clause-at_once
returns-then-rounds-gt-MOST_ROUNDS-clause-at_once c first = absurd (good_round (plan_on c.args.program.now c.args.nodes) c.args.text.now c.in-Some.lines.now c.in-Some.rounds c.in-Some.ensures.1 c.in-Some.ensures.0 first)

pub returns-clause-at_once : goal.returns-clause-at_once
returns-clause-at_once c first = absurd (good_round (plan_on c.args.program.now c.args.nodes) c.args.text.now c.in-Some.lines.now c.in-Some.rounds c.in-Some.ensures.1 c.in-Some.ensures.0 first)
