use Rattle.std.proofs.Common.{◌≡◌, ◌∙◌, ◌<◌, length, rules, sym}
use Rattle.link_net.specs.Layout.{rows_of}
use Rattle.app_calls.specs.LargeAnswers.{words_plan}
use Rattle.app_calls.specs.Lists.{given_weights}
use Rattle.app_calls.specs.WatchAnswers.{plan_from}
use Rattle.app_calls.proofs.Watches.{early, none_left}
use Rattle.app_calls.proofs.large.told.told_of_each.Goals as goal

pub returns-then-is_empty-clause-words : goal.returns-then-is_empty-clause-words
returns-then-is_empty-clause-words c =
    let a = c.args in
    let none : length a.asked.now.rounds.now ≡ 0 = search rules in
    let plan = words_plan a.origin.now.program.now (rows_of a.origin.now.lists.offsets.now a.origin.now.lists.neighbours.now (given_weights a.origin.now.lists.neighbours.now a.origin.now.lists.weights.now)) a.from.now a.origin.now.start in
    c.new.ensures.items ∙ sym (none_left a.asked.now.telling plan a.asked.now.rounds.now none)

pub told_on_lists-requires-clause-early : goal.told_on_lists-requires-clause-early
told_on_lists-requires-clause-early c =
    let some : 0 < length c.args.asked.now.rounds.now = search rules in
    early (plan_from c.args.origin.now.start) c.args.origin.now.start c.args.asked.now.rounds.now some c.requires.there
