use Rattle.std.proofs.Common.{◌≡◌, ◌∙◌, ◌+◌, ◌-◌, ◌≤◌, ℕ, List, ap, arith, map, suc, sym}
use Rattle.rounds_walk.specs.Walking.{RoundView}
use Rattle.run_cuts.specs.declared.tally.Counted.{Counted}
use Rattle.run_cuts.specs.Cuts.{step_occasions}
use Rattle.run_cuts.specs.Counting.{after_all}
use Rattle.run_cuts.proofs.Noted.{in_first, none_yet, standing_at, step_turn}
use Rattle.run_cuts.proofs.walking.count_rounds.Goals as goal

pub loop-round-init : goal.loop-round-init
loop-round-init c =
    let p = c.args.plan.now in
    let cs = c.args.counted.now in
    let none : c.start-round.result - p.start ≡ 0 = omega (arith, c.start-round.ensures.start) in
    record {
      walk = c.requires.start ∙ ap (standing_at p) (sym c.start-round.ensures.start);
      counted = sym (ap (λ (n : ℕ). map (after_all (in_first p n)) cs) none ∙ none_yet cs);
    }

pub loop-round-preserved : goal.loop-round-preserved
loop-round-preserved c =
    let p = c.args.plan.now in
    let cs = c.args.counted.now in
    let l = c.loop-round in
    let t = l.round in
    let behind : p.start ≤ t = omega (arith, l.auto.round, l.auto.round-end, c.start-round.ensures.start, c.requires.late) in
    let is : t ≡ p.start + (t - p.start) = omega (arith, behind) in
    let next : t + 1 - p.start ≡ suc (t - p.start) = omega (arith, behind) in
    record {
      walk = c.step.ensures.next ∙ ap (λ (v : RoundView). standing_at v.plan (v.round + 1)) l.invariant.walk;
      counted =
          c.in_ok-count_step.ensures.exact
          ∙ ap (λ (ds : List Counted). map (after_all (λ op. step_occasions p op t)) ds) l.invariant.counted
          ∙ step_turn p t (t + 1 - p.start) (t - p.start) cs is next;
    }
