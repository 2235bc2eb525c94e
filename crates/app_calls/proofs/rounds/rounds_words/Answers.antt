use Rattle.std.proofs.Common.{◌≡◌, ◌∙◌, ◌+◌, ◌<◌, ◌++◌, ap, arith, length, slice_index, sym}
use Rattle.rounds_plan.specs.Lockstep.{lockstep_config}
use Rattle.rounds_plan.specs.Plans.{PlanView}
use Rattle.rounds_walk.specs.Walking.{RoundView}
use Rattle.app_calls.specs.Refusals.{word_count}
use Rattle.app_calls.specs.Words.{words_of}
use Rattle.app_calls.proofs.Listed.{count_more, is_next, words_more}
use Rattle.app_calls.proofs.rounds.rounds_words.Goals as goal

pub add_round-requires-clause-late : goal.add_round-requires-clause-late
add_round-requires-clause-late c =
    let rest = c.loop-round.invariant.rest in
    let next = is_next c.args.plan.now rest.0 c.args.rounds.now c.loop-round.round-index (omega (arith, c.loop-round-test.true)) rest.2 in
    let late = next.late in
    let there = rest.1 in
    omega (arith, late, there)

pub add_round-requires-clause-few : goal.add_round-requires-clause-few
add_round-requires-clause-few c =
    let rest = c.loop-round.invariant.rest in
    let next = is_next c.args.plan.now rest.0 c.args.rounds.now c.loop-round.round-index (omega (arith, c.loop-round-test.true)) rest.2 in
    next.few

pub loop-round-preserved : goal.loop-round-preserved
loop-round-preserved c =
    let p = c.args.plan.now in
    let l = c.loop-round in
    let rounds = c.args.rounds.now in
    let t = slice_index rounds l.round-index in
    let inside : l.round-index < length rounds = omega (arith, c.loop-round-test.true) in
    let next = is_next p l.invariant.rest.0 rounds l.round-index inside l.invariant.rest.2 in
    let e = c.in_ok-add_round.ensures in
    let here : c.add_round.new.walk.round ≡ t = ap (λ (v : RoundView). v.round) e.there in
    let added : c.add_round.new.words.items ≡ l.words.items ++ words_of (lockstep_config p t) = e.added ∙ ap (λ (q : PlanView). l.words.items ++ words_of (lockstep_config q t)) l.invariant.plan in
    let count : length (words_of (lockstep_config p t)) ≡ word_count p =
    ap (λ (q : PlanView). length (words_of (lockstep_config q t))) (sym l.invariant.plan) ∙ e.count ∙ ap word_count l.invariant.plan in
    record {
      plan = ap (λ (v : RoundView). v.plan) e.there ∙ l.invariant.plan;
      rest = (t + 1, omega (arith, here), next.rest);
      words = words_more p rounds l.words.items _ _ l.round-index inside added l.invariant.words;
      count = count_more l.words.items _ _ l.round-index (word_count p) added count l.invariant.count;
    }
