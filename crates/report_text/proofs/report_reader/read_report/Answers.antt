use Rattle.std.proofs.Common.{◌≡◌, ◌≤◌, ◌∙◌, All, Err, Ok, ap, arith, length, subst, sym}
use Rattle.std.proofs.lemmas.Grind.{common_steps}
use Rattle.std.proofs.lemmas.Result.{err_from_is_err_and}
use Rattle.rounds_plan.specs.Configs.{IsPlain, most_rounds}
use Rattle.report_text.specs.ReadReport.{IsReportOf}
use Rattle.report_text.proofs.Elsewhere.{bad_line_on_nodes, config_read, refused_of_plan, report_of_plan, report_on_nodes}
use Rattle.report_text.proofs.report_reader.read_report.Goals as goal

pub returns-in_err-read-clause-every_report : goal.returns-in_err-read-clause-every_report
returns-in_err-read-clause-every_report c report is =
    let count = c.nodes.ensures.count ∙ ap length c.network.ensures.network in
    let told = err_from_is_err_and c.from_residual.result c.from_residual.ensures.1 in
    rw (told.1, told.2) (c.in_err-read.ensures.every_report report (report_on_nodes c.args.plan.now c.program.result.now c.nodes.result c.program.ensures.program count c.args.text.now report is))

pub returns-in_err-read-clause-refused : goal.returns-in_err-read-clause-refused
returns-in_err-read-clause-refused c =
    let count = c.nodes.ensures.count ∙ ap length c.network.ensures.network in
    let told = err_from_is_err_and c.from_residual.result c.from_residual.ensures.1 in
    rw (told.1, told.2) (refused_of_plan c.args.plan.now c.program.result.now c.nodes.result c.program.ensures.program count c.args.text.now c.in_err-read.field-0.0 c.in_err-read.ensures.refused)

pub returns-in_err-read-clause-at_once : goal.returns-in_err-read-clause-at_once
returns-in_err-read-clause-at_once c first =
    let count = c.nodes.ensures.count ∙ ap length c.network.ensures.network in
    let told = err_from_is_err_and c.from_residual.result c.from_residual.ensures.1 in
    told.1 ∙ ap Err told.2 ∙ c.in_err-read.ensures.at_once (bad_line_on_nodes c.args.plan.now c.program.result.now c.nodes.result c.program.ensures.program count c.args.text.now 1 first)

pub of-requires-clause-nodes : goal.of-requires-clause-nodes
of-requires-clause-nodes c =
    let count = c.nodes.ensures.count ∙ ap length c.network.ensures.network in
    let there = report_of_plan c.args.plan.now c.program.result.now c.nodes.result c.program.ensures.program count c.args.text.now c.in_ok-read.read c.in_ok-read.ensures.report.0 in
    let long : length c.into_states.result.items ≡ length c.args.plan.now.network = ap length c.into_states.ensures.states ∙ there.shape.nodes in
    grind (arith, common_steps, long)

pub of-requires-clause-plain : goal.of-requires-clause-plain
of-requires-clause-plain c =
    let p = c.args.plan.now in
    let count = c.nodes.ensures.count ∙ ap length c.network.ensures.network in
    let there = report_of_plan p c.program.result.now c.nodes.result c.program.ensures.program count c.args.text.now c.in_ok-read.read c.in_ok-read.ensures.report.0 in
    subst (All (IsPlain (length p.program.fields))) (sym c.into_states.ensures.states) (λ k d inside. (there.shape.states k d inside).plain)

pub returns-clause-report : goal.returns-clause-report
returns-clause-report c =
    let p = c.args.plan.now in
    let text = c.args.text.now in
    let count = c.nodes.ensures.count ∙ ap length c.network.ensures.network in
    let read = c.in_ok-read.ensures.report in
    let there = report_of_plan p c.program.result.now c.nodes.result c.program.ensures.program count text c.in_ok-read.read read.0 in
    let same =
    c.of.ensures.parts
    ∙ config_read p c.program.result.now c.nodes.result c.program.ensures.program count text c.in_ok-read.read c.rounds-rounds.result c.into_states.result.items read.0 c.rounds-rounds.ensures.round c.into_states.ensures.states in
    subst (λ config. IsReportOf p text config × (config.rounds ≤ most_rounds)) (sym same) (there, read.1)

pub returns-clause-every_report : goal.returns-clause-every_report
returns-clause-every_report c report is =
    let p = c.args.plan.now in
    let text = c.args.text.now in
    let count = c.nodes.ensures.count ∙ ap length c.network.ensures.network in
    let same =
    c.of.ensures.parts
    ∙ config_read p c.program.result.now c.nodes.result c.program.ensures.program count text c.in_ok-read.read c.rounds-rounds.result c.into_states.result.items c.in_ok-read.ensures.report.0 c.rounds-rounds.ensures.round c.into_states.ensures.states in
    c.in_ok-read.ensures.every_report report (report_on_nodes p c.program.result.now c.nodes.result c.program.ensures.program count text report is) ∙ ap Ok (sym same)

pub returns-clause-at_once : goal.returns-clause-at_once
returns-clause-at_once c first =
    let count = c.nodes.ensures.count ∙ ap length c.network.ensures.network in
    let same = c.in_ok-read.ensures.at_once (bad_line_on_nodes c.args.plan.now c.program.result.now c.nodes.result c.program.ensures.program count c.args.text.now 1 first) in
    absurd cc
