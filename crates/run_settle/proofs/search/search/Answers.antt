use Rattle.std.proofs.Common.{◌≡◌, ◌+◌, ◌-◌, arith, refl, subst, sym, ap, ◌∙◌}
use Rattle.std.specs.Prelude.{IfSome}
use Rattle.rounds_plan.specs.Plans.{PlanView}
use Rattle.rounds_walk.specs.Walking.{RoundView}
use Rattle.run_settle.specs.Searching.{IsAway, IsFound}
use Rattle.run_settle.proofs.Returns.{answered, away_open, last_within, restless_there, same_view}
use Rattle.run_settle.proofs.search.search.Goals as goal

pub loop-reach-preserved : goal.loop-reach-preserved
loop-reach-preserved g c =
    let p = c.args.course.now.start.now in
    let inv = c.loop-reach.invariant in
    let old = c.loop-reach.walk in
    let new = c.look.new.walk in
    let mark = c.loop-reach.mark in
    let there = c.in_default.ensures.there refl in
    let min = c.min-next.ensures in
    let stays : new.plan ≡ old.plan = ap (λ (v : RoundView). v.plan) there in
    let on : new.round ≡ old.round + (c.min-next.result - c.loop-reach.reach) = ap (λ (v : RoundView). v.round) there in
    let marked : mark.plan ≡ old.plan = ap (λ (v : RoundView). v.plan) inv.mark in
    record {
      plan = stays ∙ inv.plan;
      mark = c.go_by.ensures.there ∙ same_view new mark.plan c.round.result (marked ∙ sym stays) c.round.ensures.round;
      some = omega arith;
      within = omega arith;
      here = omega arith;
      restless = restless_there p old new _ inv.plan on (c.in_default.ensures.restless refl);
    }

pub returns-clause-found : goal.returns-clause-found
returns-clause-found g c =
    let p = c.args.course.now.start.now in
    let inv = c.loop-reach.invariant in
    let walk = c.loop-reach.walk in
    let length = c.args.limit - c.first_round.result in
    answered p c.args.limit c.look-2.result
    (λ none.
    away_open p c.first_round.ensures.inside c.requires.unread c.args.limit walk.round length (omega (arith, c.first_round.ensures.start)) (omega (arith, c.first_round.ensures.start))
    (subst (λ (q : PlanView). IsAway q walk.round (walk.round + length + 1)) inv.plan (c.look-2.ensures.away none)))
    (subst (λ (q : PlanView). IfSome c.look-2.result (IsFound q)) inv.plan c.look-2.ensures.found)

pub returns-clause-last : goal.returns-clause-last
returns-clause-last g c =
    let inv = c.loop-reach.invariant in
    let walk = c.loop-reach.walk in
    last_within c.look-2.result (walk.round + (c.args.limit - c.first_round.result)) 2000000000 (omega (arith, c.first_round.ensures.start)) c.look-2.ensures.last
