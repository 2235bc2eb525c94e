use Rattle.std.proofs.Common.{◌≡◌, ◌∙◌, ◌+◌, ◌<◌, ◌++◌, ap, arith, length, slice_index, sym}
use Rattle.rounds_plan.specs.Lockstep.{lockstep_config}
use Rattle.rounds_plan.specs.Plans.{PlanView}
use Rattle.rounds_walk.specs.Walking.{RoundView}
use Rattle.app_calls.specs.Refusals.{word_count}
use Rattle.app_calls.specs.Tellings.{told_count, told_of}
use Rattle.app_calls.proofs.Watches.{count_more, is_next, rounds_more}
use Rattle.app_calls.proofs.large.told.plan_told.Goals as goal

pub add_round-requires-clause-late : goal.add_round-requires-clause-late
add_round-requires-clause-late c =
    let rest = c.loop-round.invariant.rest in
    let next = is_next c.args.plan.now rest.0 c.args.asked.now.rounds.now c.loop-round.round-index (omega (arith, c.loop-round-test.true)) rest.2 in
    let late = next.late in
    let there = rest.1 in
    omega (arith, late, there)

pub loop-round-preserved : goal.loop-round-preserved
loop-round-preserved c =
    let telling = c.args.asked.now.telling in
    let p = c.args.plan.now in
    let l = c.loop-round in
    let rounds = c.args.asked.now.rounds.now in
    let t = slice_index rounds l.round-index in
    let inside : l.round-index < length rounds = omega (arith, c.loop-round-test.true) in
    let next = is_next p l.invariant.rest.0 rounds l.round-index inside l.invariant.rest.2 in
    let e = c.in_ok-add_round.ensures in
    let here : c.add_round.new.walk.round ≡ t = ap (λ (v : RoundView). v.round) e.there in
    let added : c.add_round.new.words.items ≡ l.words.items ++ told_of telling (lockstep_config p t) = e.added ∙ ap (λ (q : PlanView). l.words.items ++ told_of telling (lockstep_config q t)) l.invariant.plan in
    let count : length (told_of telling (lockstep_config p t)) ≡ told_count telling (word_count p) =
    ap (λ (q : PlanView). length (told_of telling (lockstep_config q t))) (sym l.invariant.plan) ∙ e.count ∙ ap (λ (q : PlanView). told_count telling (word_count q)) l.invariant.plan in
    record {
      plan = ap (λ (v : RoundView). v.plan) e.there ∙ l.invariant.plan;
      rest = (t + 1, omega (arith, here), next.rest);
      words = rounds_more telling p rounds l.words.items _ _ l.round-index inside added l.invariant.words;
      count = count_more l.words.items _ _ l.round-index (told_count telling (word_count p)) added count l.invariant.count;
    }
