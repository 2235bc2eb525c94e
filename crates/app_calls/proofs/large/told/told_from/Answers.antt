use Rattle.std.proofs.Common.{◌∙◌, ◌*◌, ap, length, sym}
use Rattle.rounds_plan.specs.Plans.{PlanView}
use Rattle.app_calls.specs.Refusals.{word_count}
use Rattle.app_calls.specs.Tellings.{told_at, told_count}
use Rattle.app_calls.specs.WatchAnswers.{plan_from}
use Rattle.app_calls.proofs.Watches.{same_there}
use Rattle.app_calls.proofs.large.told.told_from.Goals as goal

pub plan_told-requires : goal.plan_told-requires
plan_told-requires c =
    record { there = same_there (plan_from c.args.start) c.in_ok-plan.plan c.args.asked.now.rounds.now (sym (ap (λ (p : PlanView). p.start) c.in_ok-plan.ensures.plan)) c.requires.there }

pub returns-clause-words : goal.returns-clause-words
returns-clause-words c = c.in_ok-words.ensures.words ∙ ap (λ (p : PlanView). told_at c.args.asked.now.telling p c.args.asked.now.rounds.now) c.in_ok-plan.ensures.plan

pub returns-clause-count : goal.returns-clause-count
returns-clause-count c = c.in_ok-words.ensures.count ∙ ap (λ (p : PlanView). length c.args.asked.now.rounds.now * told_count c.args.asked.now.telling (word_count p)) c.in_ok-plan.ensures.plan
