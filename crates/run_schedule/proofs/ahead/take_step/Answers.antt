use Rattle.std.proofs.Common.{◌≡◌, ◌+◌, ◌<◌, ◌≤◌, ◌++◌, ◌∷◌, [], refl, sym, subst, arith}
use Rattle.link_net.specs.Neighbours.{degree}
use Rattle.unison_world.specs.declared.step.Step.TheVariants.{Read, Write}
use Rattle.unison_world.specs.View.{WorldView}
use Rattle.run_schedule.specs.declared.ahead.Turn.{Turn}
use Rattle.run_schedule.specs.Leading.{AreTurns}
use Rattle.run_schedule.proofs.Leading.{made-read, made-write, turn-reads, turn-writes, turns-moved, turns-read}
use Rattle.run_schedule.proofs.Walking.{step-goes}
use Rattle.run_schedule.proofs.ahead.take_step.Goals as goal

pub returns-then-turn-slots-clause-takes : goal.returns-then-turn-slots-clause-takes
returns-then-turn-slots-clause-takes c =
    let w = c.args.walk.now in
    let t = c.args.turn in
    let slots : c.degree_of-slots.result ≡ degree w.world.plan.network t.node = rw c.network.ensures.network at c.degree_of-slots.ensures.exact in
    let past : degree w.world.plan.network t.node ≤ t.slot = omega (arith, slots, c.if-turn-slots.true) in
    let answer = turn-writes w.world c.args.node c.args.turns.now.items t c.requires.turns past in
    record { more = (Write t.node, (made-write w c.make.new.self t.node c.in_ok-make.ensures.after c.requires.none answer).1) }

pub returns-then-turn-slots-clause-turns : goal.returns-then-turn-slots-clause-turns
returns-then-turn-slots-clause-turns c =
    let w = c.args.walk.now in
    let t = c.args.turn in
    let turns = c.args.turns.now.items in
    let slots : c.degree_of-slots.result ≡ degree w.world.plan.network t.node = rw c.network.ensures.network at c.degree_of-slots.ensures.exact in
    let past : degree w.world.plan.network t.node ≤ t.slot = omega (arith, slots, c.if-turn-slots.true) in
    let answer = turn-writes w.world c.args.node turns t c.requires.turns past in
    let made = made-write w c.make.new.self t.node c.in_ok-make.ensures.after c.requires.none answer in
    subst (λ (x : WorldView). AreTurns x c.args.node turns) (sym made.0) (turns-moved w.world c.args.node turns t c.network.ensures.sound c.requires.turns)

pub returns-in_err-push-clause-goes : goal.returns-in_err-push-clause-goes
returns-in_err-push-clause-goes c = step-goes c.args.walk.now c.make-2.new.self (Read c.args.turn.node c.args.turn.slot) c.in_ok-make-2.ensures.after

pub returns-clause-goes : goal.returns-clause-goes
returns-clause-goes c = step-goes c.args.walk.now c.make-2.new.self (Read c.args.turn.node c.args.turn.slot) c.in_ok-make-2.ensures.after

pub returns-clause-takes : goal.returns-clause-takes
returns-clause-takes c =
    let w = c.args.walk.now in
    let t = c.args.turn in
    let slots : c.degree_of-slots.result ≡ degree w.world.plan.network t.node = rw c.network.ensures.network at c.degree_of-slots.ensures.exact in
    let inside : t.slot < degree w.world.plan.network t.node = omega (arith, slots, c.if-turn-slots.false) in
    let answer = turn-reads w.world c.args.node c.args.turns.now.items t c.requires.turns c.requires.ready inside in
    record { more = (Read t.node t.slot, (made-read w c.make-2.new.self t.node t.slot c.in_ok-make-2.ensures.after c.requires.none answer).1) }

pub returns-clause-turns : goal.returns-clause-turns
returns-clause-turns c =
    let w = c.args.walk.now in
    let t = c.args.turn in
    let turns = c.args.turns.now.items in
    let slots : c.degree_of-slots.result ≡ degree w.world.plan.network t.node = rw c.network.ensures.network at c.degree_of-slots.ensures.exact in
    let inside : t.slot < degree w.world.plan.network t.node = omega (arith, slots, c.if-turn-slots.false) in
    let answer = turn-reads w.world c.args.node turns t c.requires.turns c.requires.ready inside in
    let made = made-read w c.make-2.new.self t.node t.slot c.in_ok-make-2.ensures.after c.requires.none answer in
    let next : Turn = record { node = t.node; slot = t.slot + 1 } in
    rw c.in_ok-push.ensures.items
    (subst (λ (x : WorldView). AreTurns x c.args.node (turns ++ next ∷ [])) (sym made.0) (turns-read w.world c.args.node turns t next c.network.ensures.sound c.requires.turns inside refl refl))
