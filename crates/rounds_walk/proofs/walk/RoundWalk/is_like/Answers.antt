use Rattle.std.proofs.Common.{◌≡◌, ◌∙◌, ap, arith, length, subst, sym}
use Rattle.rounds_plan.specs.Plans.{PlanView}
use Rattle.rounds_walk.specs.Walking.{AreAlike, HasRound, RoundView}
use Rattle.rounds_walk.proofs.Alike.{alike_held, held_alike}
use Rattle.rounds_walk.proofs.walk.RoundWalk.is_like.Goals as goal

pub returns : goal.returns
returns c =
    let s = c.self.inside in
    let o = c.other.inside in
    let p = s.start.now in
    let plans : o.start.now ≡ p = ap (λ (v : RoundView). v.plan) c.other.view_is ∙ c.requires.plan ∙ sym (ap (λ (v : RoundView). v.plan) c.self.view_is) in
    let beside = subst (λ (q : PlanView). HasRound q o.round o.states) plans c.other.invariant.held in
    let low = ap length c.self.invariant.held.network in
    record {
      exact = (
        λ same.
            subst (λ (v : RoundView). AreAlike v.plan v.round c.args.other.now.round) c.self.view_is
            (subst (λ (v : RoundView). AreAlike p s.round v.round) c.other.view_is
            (held_alike p s.round o.round s.states o.states c.self.invariant.held beside (λ u inside. c.is_like.ensures.exact.0 same u (omega (arith, inside, low))))),
        λ alike.
            c.is_like.ensures.exact.1
            (λ u inside.
            alike_held p s.round o.round s.states o.states c.self.invariant.held beside
            (subst (λ (v : RoundView). AreAlike p s.round v.round) (sym c.other.view_is)
            (subst (λ (v : RoundView). AreAlike v.plan v.round c.args.other.now.round) (sym c.self.view_is) alike))
            u (omega (arith, inside, low))),
      );
    }
