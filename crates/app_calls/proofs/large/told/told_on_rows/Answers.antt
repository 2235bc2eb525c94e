use Rattle.std.proofs.Common.{◌≡◌, ◌∙◌, ◌*◌, ℕ, List, Ok, ap, length, subst, sym}
use Rattle.rule_check.specs.declared.state.State.{State}
use Rattle.rounds_plan.specs.Starts.{start_of}
use Rattle.app_calls.specs.Tellings.{told_at, told_count}
use Rattle.app_calls.specs.LargeAnswers.{given_plan}
use Rattle.app_calls.proofs.Moves.{as_opening, plan_there}
use Rattle.app_calls.proofs.large.told.told_on_rows.Goals as goal

pub told_from-requires-clause-plan : goal.told_from-requires-clause-plan
told_from-requires-clause-plan c =
    let program = c.args.program.now in
    let rows = c.args.rows in
    let from = c.args.from.now in
    let opens = as_opening program rows from _ _ c.deref.result.now (c.deref.ensures.value ∙ c.in_ok-opening.ensures.states) c.field_count-fields.ensures.count c.nodes-nodes.ensures.count in
    subst (λ (o : List State). start_of program rows o c.args.start ≡ Ok (given_plan program rows o c.args.start)) (sym opens)
    (plan_there program rows from c.args.start c.requires.some c.requires.early)

pub returns-clause-words : goal.returns-clause-words
returns-clause-words c =
    let program = c.args.program.now in
    let rows = c.args.rows in
    let from = c.args.from.now in
    let opens = as_opening program rows from _ _ c.deref.result.now (c.deref.ensures.value ∙ c.in_ok-opening.ensures.states) c.field_count-fields.ensures.count c.nodes-nodes.ensures.count in
    c.in_ok-words.ensures.words ∙ ap (λ (o : List State). told_at c.args.asked.now.telling (given_plan program rows o c.args.start) c.args.asked.now.rounds.now) opens

pub returns-clause-count : goal.returns-clause-count
returns-clause-count c = c.in_ok-words.ensures.count ∙ ap (λ (n : ℕ). length c.args.asked.now.rounds.now * told_count c.args.asked.now.telling n) (sym c.requires.count)
