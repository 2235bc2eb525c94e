use Rattle.std.proofs.Common.{◌∙◌, ◌<◌, List, ap, arith, length, map, subst, sym}
use Rattle.link_net.specs.Neighbours.{AreRows}
use Rattle.rounds_plan.specs.Lockstep.{state_in}
use Rattle.run_cuts.specs.declared.tally.Counted.{Counted}
use Rattle.run_cuts.specs.Cuts.{here_by, occasion}
use Rattle.run_cuts.specs.Counting.{after_one}
use Rattle.run_cuts.proofs.Noted.{node_turn, none_yet}
use Rattle.run_cuts.proofs.Standing.{here_same}
use Rattle.run_cuts.proofs.steps.count_step.Goals as goal

pub loop-node-init : goal.loop-node-init
loop-node-init c = sym (none_yet c.args.counted.now)

pub loop-node-preserved : goal.loop-node-preserved
loop-node-preserved c =
    let p = c.args.plan.now in
    let t = c.args.round in
    let u = c.loop-node.node in
    let states = c.args.states.now in
    let here = here_by p.program p.network t (state_in states) u in
    let whole : AreRows p.network = subst AreRows c.rows-rows.ensures.rows c.nodes-nodes.ensures.whole in
    let inside : u < length p.network = omega (arith, c.loop-node-test.true, c.nodes-nodes.ensures.count, ap length c.rows-rows.ensures.rows) in
    c.in_ok-count_node.ensures.exact
    ∙ ap (λ (cs : List Counted). map (after_one here (occasion t u)) cs) c.loop-node.invariant
    ∙ node_turn p t u here c.args.counted.now (here_same p t u states whole.within c.requires.states inside)
