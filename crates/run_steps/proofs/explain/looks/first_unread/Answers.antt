use Rattle.std.proofs.Common.{◌≡◌, ◌∙◌, ◌<◌, ◌≤◌, ap, arith}
use Rattle.link_net.specs.Neighbours.{degree}
use Rattle.run_steps.specs.explain.Reads.{one_if_read}
use Rattle.run_steps.proofs.explain.Reading.{unread-here, unread-nowhere}
use Rattle.run_steps.proofs.explain.looks.first_unread.Goals as goal

pub returns-then-one_if_read-eq0 : goal.returns-then-one_if_read-eq0
returns-then-one_if_read-eq0 c =
    let w = c.args.world.now in
    let u = c.args.node in
    let j = c.loop-slot.slot in
    let slots : c.degree_of-slots.result ≡ degree w.plan.network u = c.degree_of-slots.ensures.exact ∙ ap (λ n. degree n u) (c.rows.ensures.rows ∙ ap (λ p. p.network) c.plan.ensures.plan) in
    let inside : j < degree w.plan.network u = (let test = c.loop-slot-test.true in omega arith) in
    let none : c.one_if_read.result ≡ 0 = (let test = c.if-one_if_read-eq0.true in omega arith) in
    unread-here w.plan.network w.stop w.counts u j c.one_if_read.result c.nodes-nodes.ensures.shape c.nodes-nodes.ensures.in_step inside (c.one_if_read.ensures.count ∙ ap one_if_read c.ask.ensures.answer) none c.loop-slot.invariant

pub returns : goal.returns
returns c =
    let w = c.args.world.now in
    let u = c.args.node in
    let slots : c.degree_of-slots.result ≡ degree w.plan.network u = c.degree_of-slots.ensures.exact ∙ ap (λ n. degree n u) (c.rows.ensures.rows ∙ ap (λ p. p.network) c.plan.ensures.plan) in
    let past : c.degree_of-slots.result ≤ c.loop-slot.slot = (let test = c.loop-slot-test.false in omega arith) in
    unread-nowhere w.plan.network w.counts u c.loop-slot.slot c.degree_of-slots.result c.nodes-nodes.ensures.shape slots past c.loop-slot.invariant
