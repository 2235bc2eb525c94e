use Rattle.std.proofs.Common.{◌≡◌, ◌<◌, ◌∙◌, ap, arith, get_or, length, sym}
use Rattle.std.proofs.lemmas.List.{get_or_default, length-map}
use Rattle.run_naive.specs.declared.node.Node.{Node}
use Rattle.run_naive.specs.Naive.{NaiveNode}
use Rattle.run_naive.specs.Keeping.{shown}
use Rattle.run_naive.proofs.Seen.{shown_at, write_shown, write_past}
use Rattle.run_naive.proofs.stepping.write.Goals as goal

pub advance-requires-clause-few : goal.advance-requires-clause-few
advance-requires-clause-few c =
    let nodes = c.args.nodes.now in
    let u = c.args.node in
    let inside : u < length nodes = omega arith in
    let count = length-map nodes shown in
    let slots = c.requires.naive.slots u (omega (arith, inside, count, c.requires.naive.one_each)) in
    let desk = ap (λ (n : NaiveNode). length n.desk) (shown_at nodes u c.index-nodes-mover-2.result inside) in
    omega (arith, slots, desk, c.phase-phase.ensures.whole.network.degrees u)

pub returns-clause-after : goal.returns-clause-after
returns-clause-after c =
    let nodes = c.args.nodes.now in
    let u = c.args.node in
    let d = c.index-nodes-mover-2.result in
    let inside : u < length nodes = omega arith in
    let same = get_or_default nodes u c.index-nodes-mover.result d inside in
    let below : (get_or nodes u d).moves < c.args.stop = omega (arith, c.if-nodes-mover.false, ap (λ (n : Node). n.moves) same) in
    write_shown c.args.plan.now.program c.args.stop nodes u d c.advance.new.self inside below (rw c.program.ensures.program at c.in_ok-advance.ensures.moved)

pub returns-clause-past : goal.returns-clause-past
returns-clause-past c =
    let nodes = c.args.nodes.now in
    let u = c.args.node in
    let d = c.index-nodes-mover-2.result in
    let inside : u < length nodes = omega arith in
    let same = get_or_default nodes u c.index-nodes-mover.result d inside in
    let below : (get_or nodes u d).moves < c.args.stop = omega (arith, c.if-nodes-mover.false, ap (λ (n : Node). n.moves) same) in
    write_past c.args.plan.now.program c.args.stop c.args.number nodes u d c.advance.new.self inside below (rw c.program.ensures.program at c.in_ok-advance.ensures.past)
