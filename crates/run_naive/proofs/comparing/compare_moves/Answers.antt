use Rattle.std.proofs.Common.{◌≡◌, ◌∙◌, ◌+◌, ◌<◌, List, ap, arith, length, map, refl, subst, sym}
use Rattle.std.specs.Prelude.{option_map, slice_get}
use Rattle.rounds_plan.proofs.Nears.{states_at}
use Rattle.run_naive.specs.declared.node.Move.{Move}
use Rattle.run_naive.specs.Keeping.{AreCompared, BeforeNode, difference_at, past_in, past_of, with_found}
use Rattle.run_naive.proofs.Compared.{compared_before, compared_behind, compared_node}
use Rattle.run_naive.proofs.Seen.{past_at}
use Rattle.run_naive.proofs.comparing.compare_moves.Goals as goal

pub loop-node-init : goal.loop-node-init
loop-node-init c = compared_before c.args.plan.now (map past_of c.args.nodes.now) c.args.index c.args.known c.requires.known

pub loop-node-preserved : goal.loop-node-preserved
loop-node-preserved c =
    let p = c.args.plan.now in
    let nodes = c.args.nodes.now in
    let pasts = map past_of nodes in
    let index = c.args.index in
    let moves = c.args.moves in
    let u = c.loop-node.node in
    let d = c.index-nodes-place.result in
    let state = c.state_at-lockstep.result in
    let inside : u < length p.network = omega (arith, c.loop-node-test.true, c.nodes-node-end.ensures.count, ap length c.network.ensures.network) in
    let within : u < length nodes = omega (arith, inside, c.requires.nodes) in
    let known = c.state_at-lockstep.ensures.exact ∙ states_at p moves c.args.states.now u c.requires.states inside in
    let found = c.move_at-found.ensures.exact ∙ ap (λ (ms : List Move). option_map (difference_at u moves state) (slice_get ms index)) (ap past_of c.index-nodes-place.is ∙ sym (past_at nodes u d within)) in
    let more = compared_node p pasts index u moves state c.requires.moves inside known c.loop-node.first c.loop-node.invariant (slice_get (past_in pasts u) index) refl in
    subst (AreCompared p pasts (BeforeNode index (u + 1))) (sym (c.with_found-first.ensures.exact ∙ ap (with_found c.loop-node.first) found)) more

pub returns : goal.returns
returns c =
    let p = c.args.plan.now in
    let all : c.loop-node.node ≡ length p.network = omega (arith, c.loop-node-test.false, c.loop-node.auto.node-end, c.nodes-node-end.ensures.count, ap length c.network.ensures.network) in
    record { first = compared_behind p (map past_of c.args.nodes.now) c.args.index c.loop-node.node c.loop-node.first all c.loop-node.invariant }
