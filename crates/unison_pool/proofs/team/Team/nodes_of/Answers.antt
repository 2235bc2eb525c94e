use Rattle.std.proofs.Common.{◌≡◌, ap, ◌∙◌, length}
use Rattle.std.proofs.lemmas.Bool.{eq-eqb, ne_eqb}
use Rattle.unison_pool.specs.Parts.{part_of}
use Rattle.unison_pool.proofs.Driving.{left-no, left-none, one-more, at-start-more}
use Rattle.unison_pool.proofs.team.Team.nodes_of.Goals.{then-node-part+in_ok-push, else-node-part}
use Rattle.unison_pool.proofs.team.Team.nodes_of.Goals as goal

pub loop-node-preserved : goal.loop-node-preserved
loop-node-preserved g c = elim c.if-node-part.branch [
  | then-node-part+in_ok-push w ↦ rw w.nodes-is (record {
    nodes = one-more _ _ _ _ _ _ _ w.in_ok-push.ensures.items c.loop-node-test.true (eq-eqb _ _ w.if-node-part.true) c.loop-node.invariant.nodes;
    at_start = at-start-more _ _ _ _ w.in_ok-push.ensures.items c.loop-node.invariant.at_start;
  })
  | else-node-part w ↦ rw w.nodes-is (record {
    nodes = left-no _ _ _ _ _ c.loop-node-test.true (ne_eqb _ _ w.if-node-part.false) c.loop-node.invariant.nodes;
    at_start = c.loop-node.invariant.at_start;
  })
]

pub returns-clause-nodes : goal.returns-clause-nodes
returns-clause-nodes g c =
    let network = c.network.ensures.network in
    let counted : c.nodes-node-end.result ≡ length c.args.self.now.plan.now.network = c.nodes-node-end.ensures.count ∙ ap length network in
    left-none _ _ _ _ _ c.loop-node-test.false c.loop-node.invariant.nodes ∙ ap (λ n. part_of n c.args.part.workers c.args.part.worker) counted
