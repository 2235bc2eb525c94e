use Rattle.std.proofs.Common.{◌<◌, ◌++◌, ◌∷◌, [], length, length-append, List, ap, sym, subst, ⊎_elim, arith}
use Rattle.unison_world.specs.Counting.{moves_of}
use Rattle.unison_world.specs.View.{WorldView}
use Rattle.run_schedule.specs.declared.ahead.Turn.{Turn}
use Rattle.run_schedule.specs.Leading.{AreTurns}
use Rattle.run_schedule.proofs.Leading.{stays-none, stays-step, turns-begin, turns-led, turns-none, test-equal, test-unequal}
use Rattle.run_schedule.proofs.Walking.{goes-nowhere, goes-on-further}
use Rattle.run_schedule.proofs.ahead.lead.Goals as goal

pub steps-init : goal.steps-init
steps-init c =
    let w = c.args.walk.now in
    let node = c.args.node in
    let turns : AreTurns w.world node [] = subst (λ (x : WorldView). AreTurns x node []) (sym c.requires.opened) (turns-none w.world.plan w.world.stop node c.requires.node) in
    record {
      goes = goes-nowhere w;
      turns = rw c.new-turns.ensures.items turns;
      stays = stays-none w.world node w.steps c.requires.begun c.requires.opened c.network-first.ensures.sound turns;
    }

pub first_turn-requires : goal.first_turn-requires
first_turn-requires c =
    let w = c.steps.walk.world in
    let node = c.args.node in
    let is = c.steps.invariant.turns in
    let turn = c.next_turn-next.result in
    let most = c.network-network.ensures.sound.in_step.within node in
    let other = test-unequal (moves_of w.counts node) w.stop c.is_at_stop.result c.is_at_stop.ensures c.if-is_at_stop.false in
    let below : moves_of w.counts node < w.stop = omega arith in
    record {
      turns = ⊎_elim
          (λ e. subst (AreTurns w node) e is)
          (λ e. subst (λ (xs : List Turn). AreTurns w node (xs ++ turn ∷ [])) (sym e.1)
          (turns-begin w node turn (subst (AreTurns w node) e.0 is) (ap (λ (x : Turn). x.node) e.2) (ap (λ (x : Turn). x.slot) e.2) below))
          c.next_turn-next.ensures.next;
    }

pub steps-smaller : goal.steps-smaller
steps-smaller c =
    let more = c.in_ok-take_step.ensures.takes.more in
    let many = ap length more.1 in
    let one = length-append c.steps.walk.steps (more.0 ∷ []) in
    let limit = c.take_step.ensures.goes.limit in
    let few = c.take_step.ensures.few in
    omega arith

pub steps-preserved : goal.steps-preserved
steps-preserved c =
    let more = c.in_ok-take_step.ensures.takes.more in
    let goes = c.take_step.ensures.goes in
    let turns = c.in_ok-take_step.ensures.turns in
    let v = c.take_step.new.walk in
    record {
      goes = goes-on-further c.args.walk.now c.steps.walk v c.steps.invariant.goes goes;
      turns = turns;
      stays = stays-step c.steps.walk v c.args.node more.0 c.take_step.new.turns.items c.steps.invariant.stays goes more.1 c.network-after.ensures.walk c.network-after.ensures.sound turns;
    }

pub returns-then-is_at_stop-clause-led : goal.returns-then-is_at_stop-clause-led
returns-then-is_at_stop-clause-led c =
    let w = c.steps.walk.world in
    turns-led w c.args.node c.steps.turns.items c.steps.invariant.turns (test-equal (moves_of w.counts c.args.node) w.stop c.is_at_stop.result c.is_at_stop.ensures c.if-is_at_stop.true)
