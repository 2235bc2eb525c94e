use Rattle.std.proofs.Common.{List, [], ℕ, Option, rules, subst}
use Rattle.app_jobs.specs.Served.{IsUnscheduled}
use Rattle.app_jobs.specs.FirstFault.{IsFirstFault}
use Rattle.app_calls.proofs.Unread.{unscheduled_first}
use Rattle.app_calls.proofs.reasons.texts_of.Goals as goal

pub returns-in-Lockstep-clause-first : goal.returns-in-Lockstep-clause-first
returns-in-Lockstep-clause-first c = λ f h.
    let job = c.args.job.now in
    let program = c.args.texts.now.program.now in
    let network = c.args.texts.now.network.now in
    let free : IsUnscheduled job = search rules in
    unscheduled_first job program network [] c.args.schedule.now _ f free (subst (λ (r : Option (List ℕ)). IsFirstFault job program network r [] f) c.report-in-Lockstep.ensures.text h)
