use Rattle.app_calls.proofs.FirstNumbers.{first_of_found}
use Rattle.app_calls.specs.Answers.{report_in}
use Rattle.app_calls.proofs.reasons.reason_of.Goals as goal

pub returns-clause-first : goal.returns-clause-first
returns-clause-first c =
    let found = c.in_ok-finding.ensures in
    let told = c.ending_number.ensures in
    first_of_found c.args.job.now c.args.texts.now.program.now c.args.texts.now.network.now c.args.schedule.now (report_in c.args.texts.now.from.now) c.in_ok-finding.finding.fault c.ending_number.result
    _ told.none told.number found.refused found.shown c.texts_of-named.ensures.first
