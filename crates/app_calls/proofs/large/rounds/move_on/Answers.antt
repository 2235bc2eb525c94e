use Rattle.std.proofs.Common.{◌≡◌, ◌∙◌, ◌≤◌, ◌*◌, ℕ, List, Ok, ap, arith, length, subst, sym}
use Rattle.rule_check.specs.declared.state.State.{State}
use Rattle.rounds_plan.specs.Configs.{most_rounds}
use Rattle.rounds_plan.specs.Lockstep.{lockstep_config, lockstep_states}
use Rattle.rounds_plan.specs.Starts.{start_of}
use Rattle.app_calls.specs.Words.{words_in}
use Rattle.app_calls.specs.LargeAnswers.{given_plan, words_plan}
use Rattle.app_calls.proofs.Moves.{as_opening, plan_there, round_count, round_there}
use Rattle.app_calls.proofs.large.rounds.move_on.Goals as goal

pub states_after-requires-clause-plan : goal.states_after-requires-clause-plan
states_after-requires-clause-plan c =
    let program = c.args.program.now in
    let rows = c.args.rows in
    let words = c.args.words.now in
    let opens = as_opening program rows words _ _ c.deref.result.now (c.deref.ensures.value ∙ c.in_ok-opening.ensures.states) c.field_count-fields.ensures.count c.nodes-nodes.ensures.count in
    let early : c.args.start ≤ most_rounds = omega (arith, c.requires.late, c.requires.there) in
    subst (λ (o : List State). start_of program rows o c.args.start ≡ Ok (given_plan program rows o c.args.start)) (sym opens)
    (plan_there program rows words c.args.start c.requires.some early)

pub put_states-requires-clause-count : goal.put_states-requires-clause-count
put_states-requires-clause-count c =
    let rows = c.args.rows in
    let made = c.deref-2.ensures.value ∙ c.in_ok-states.ensures.states in
    let count = round_count (given_plan c.args.program.now rows c.deref.result.now c.args.start) c.args.round (length rows) c.deref-2.result.now made in
    c.requires.count
    ∙ ap (λ (n : ℕ). n * length c.args.program.now.fields) (sym count)
    ∙ ap (λ (f : ℕ). length c.deref-2.result.now * f) (sym c.field_count-fields.ensures.count)

pub returns-clause-moved : goal.returns-clause-moved
returns-clause-moved c =
    let program = c.args.program.now in
    let rows = c.args.rows in
    let words = c.args.words.now in
    let opens = as_opening program rows words _ _ c.deref.result.now (c.deref.ensures.value ∙ c.in_ok-opening.ensures.states) c.field_count-fields.ensures.count c.nodes-nodes.ensures.count in
    let made = c.deref-2.ensures.value ∙ c.in_ok-states.ensures.states in
    let plan = words_plan program rows words c.args.start in
    record {
      count = c.requires.count;
      c = lockstep_config plan c.args.round;
      there = round_there plan c.args.round c.requires.late c.requires.there;
      words = c.put_states.ensures.put
          ∙ ap (λ (f : ℕ). words_in f c.deref-2.result.now) c.field_count-fields.ensures.count
          ∙ ap (words_in (length program.fields)) (made ∙ ap (λ (o : List State). lockstep_states (given_plan program rows o c.args.start) c.args.round (length rows)) opens);
    }
