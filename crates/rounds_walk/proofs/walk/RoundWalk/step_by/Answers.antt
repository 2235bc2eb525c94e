use Rattle.std.proofs.Common.{◌≡◌, ◌+◌, ◌∙◌, ap, arith, subst, sym}
use Rattle.std.specs.Prelude.{false}
use Rattle.rule_check.specs.Value.{Rules}
use Rattle.rule_check.specs.Rounds.{reads_round}
use Rattle.rounds_walk.specs.Walking.{AreAlike, RoundView}
use Rattle.rounds_walk.proofs.Stepped.{stepped, stepped_moves, stepped_rests}
use Rattle.rounds_walk.proofs.walk.RoundWalk.step_by.Goals as goal

pub invariant_of-self : goal.invariant_of-self
invariant_of-self g c =
    let s = c.self.inside in
    let inv = c.self.invariant in
    let e = c.make-moved.ensures in
    record {
      whole = inv.whole;
      late = omega (arith, inv.late);
      held = stepped s.start.now s.round s.states c.make-moved.new.walk inv.whole.network.within inv.late inv.held e.rules e.network e.next;
    }

pub returns-clause-rests : goal.returns-clause-rests
returns-clause-rests g c = λ still.
    let s = c.self.inside in
    let inv = c.self.invariant in
    let e = c.make-moved.ensures in
    subst (λ (v : RoundView). AreAlike v.plan v.round (v.round + 1)) c.self.view_is
    (stepped_rests s.start.now s.round s.states c.make-moved.new.walk inv.whole.network.within inv.late inv.held e.rules e.network e.next (e.rests still))

pub returns-clause-moves : goal.returns-clause-moves
returns-clause-moves g c = λ moved unread same.
    let s = c.self.inside in
    let inv = c.self.invariant in
    let e = c.make-moved.ensures in
    let alike : AreAlike s.start.now s.round (s.round + 1) = subst (λ (v : RoundView). AreAlike v.plan v.round (v.round + 1)) (sym c.self.view_is) same in
    let reads : reads_round s.states.rules ≡ false =
    ap (λ (r : Rules). reads_round r) inv.held.rules ∙ ap (λ (v : RoundView). reads_round v.plan.program) c.self.view_is ∙ unread in
    stepped_moves s.start.now s.round s.states c.make-moved.new.walk inv.whole.network.within inv.late inv.held e.rules e.network e.next (e.moves moved reads) alike
