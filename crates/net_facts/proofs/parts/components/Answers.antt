use Rattle.std.proofs.Common.{◌≡◌, true, false, get_or, sym, ◌∙◌, arith}
use Rattle.std.proofs.lemmas.Grind.{common_steps}
use Rattle.net_facts.specs.Parts.{AreJoined}
use Rattle.net_facts.proofs.Joins.{part_more, passed_more, still_in}
use Rattle.net_facts.proofs.parts.components.Goals as goal

pub loop-node-preserved-then-index : goal.loop-node-preserved-then-index
loop-node-preserved-then-index c =
    let i = c.loop-node.invariant in
    let node = c.loop-node.node in
    let marked : get_or c.loop-node.reached.marks.items node false ≡ true = grind (arith, common_steps) in
    record {
      whole = i.whole;
      size = i.size;
      closed = i.closed;
      passed = passed_more c.loop-node.reached.nodes.items node i.passed (i.whole.listed node marked);
      parts = i.parts;
      few = omega (arith, i.few);
    }

pub loop-node-preserved : goal.loop-node-preserved
loop-node-preserved c =
    let network = c.args.network.now in
    let i = c.loop-node.invariant in
    let node = c.loop-node.node in
    let old = c.loop-node.reached.nodes.items in
    let later = c.reach_all.new.reached.nodes.items in
    let none : get_or c.loop-node.reached.marks.items node false ≡ false = grind (arith, common_steps) in
    let grows = c.in_ok-reach_all.ensures.grows in
    record {
      whole = c.in_ok-reach_all.ensures.whole;
      size = c.in_ok-reach_all.ensures.size;
      closed = c.in_ok-reach_all.ensures.closed;
      passed = passed_more later node (λ u below. still_in (AreJoined network node) old later u grows (i.passed u below)) c.in_ok-reach_all.ensures.node;
      parts = part_more network old later c.loop-node.count node i.parts i.closed grows c.in_ok-reach_all.ensures.node (λ has. let bad : false ≡ true = sym none ∙ i.whole.marked node has in cc);
      few = omega (arith, i.few);
    }
