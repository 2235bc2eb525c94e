use Rattle.std.proofs.Common.{◌≡◌, ◌∙◌, ◌+◌, ◌-◌, ℕ, ap, arith, length, map, sym}
use Rattle.rounds_plan.specs.Lockstep.{lockstep_states}
use Rattle.rounds_walk.specs.Walking.{RoundView}
use Rattle.run_naive.specs.Keeping.{Before, past_of}
use Rattle.run_naive.proofs.Compared.{compared_fewer}
use Rattle.run_naive.proofs.rounds.compare_rounds.Goals as goal

pub loop-round-init : goal.loop-round-init
loop-round-init c =
    let p = c.args.plan.now in
    let start = c.start-start.ensures.start in
    record {
      walk = c.requires.start ∙ ap (λ (t : ℕ). record { plan = p; round = t }) (sym start);
      first = λ u i before h there. absurd (omega (arith, before, start));
      known = λ u h few. c.requires.known u h (omega (arith, few, start));
      room = c.requires.room;
    }

pub note_lockstep-requires-clause-states : goal.note_lockstep-requires-clause-states
note_lockstep-requires-clause-states c =
    let walked = c.step.ensures.next ∙ ap (λ (v : RoundView). record { plan = v.plan; round = v.round + 1 }) c.loop-round.invariant.walk in
    c.deref.ensures.value ∙ c.in_ok-states.ensures.exact ∙ ap (λ (v : RoundView). lockstep_states v.plan v.round (length v.plan.network)) walked

pub compare_moves-first-requires-clause-states : goal.compare_moves-first-requires-clause-states
compare_moves-first-requires-clause-states c =
    let walked = c.step.ensures.next ∙ ap (λ (v : RoundView). record { plan = v.plan; round = v.round + 1 }) c.loop-round.invariant.walk in
    c.deref-in-loop-round.ensures.value ∙ c.in_ok-states.ensures.exact ∙ ap (λ (v : RoundView). lockstep_states v.plan v.round (length v.plan.network)) walked

pub note_lockstep-requires-clause-known : goal.note_lockstep-requires-clause-known
note_lockstep-requires-clause-known c = λ u h few. c.loop-round.invariant.known u h (omega (arith, few))

pub compare_moves-first-requires-clause-known : goal.compare_moves-first-requires-clause-known
compare_moves-first-requires-clause-known c =
    compared_fewer c.args.plan.now (map past_of c.args.nodes.now) (Before (c.loop-round.round - c.args.plan.now.start)) (Before (c.loop-round.round - c.start-start.result)) c.loop-round.first
    (λ u i before h there. omega (arith, before, c.start-start.ensures.start)) c.loop-round.invariant.first

pub loop-round-preserved : goal.loop-round-preserved
loop-round-preserved c =
    let p = c.args.plan.now in
    let t = c.loop-round.round in
    let start = c.start-start.ensures.start in
    record {
      walk = c.step.ensures.next ∙ ap (λ (v : RoundView). record { plan = v.plan; round = v.round + 1 }) c.loop-round.invariant.walk;
      first =
          compared_fewer p (map past_of c.args.nodes.now) (Before (t - c.start-start.result + 1)) (Before (t + 1 - p.start)) c.compare_moves-first.result
          (λ u i before h there. omega (arith, before, start, c.loop-round.auto.round)) c.compare_moves-first.ensures.first;
      known = c.note_lockstep.ensures.known;
      room = c.note_lockstep.ensures.room;
    }
