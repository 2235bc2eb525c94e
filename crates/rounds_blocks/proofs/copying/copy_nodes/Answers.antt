use borrow.Author.Count.{below_more}
use Rattle.std.proofs.Common.{arith, subst, slice_index_or}
use Rattle.std.proofs.lemmas.List.{get_or_default}
use Rattle.rounds_blocks.specs.Rounds.{HasWordInside}
use Rattle.rounds_blocks.proofs.copying.copy_nodes.Goals as goal

pub loop-node-preserved : goal.loop-node-preserved
loop-node-preserved c =
    let a = c.args in
    let l = c.loop-node in
    let copy = c.copy_node in
    record {
      copied = λ word all i d inside. below_more (λ k. HasWordInside a.low word copy.new.part (slice_index_or a.nodes.now k d)) l.node-index
          (λ k less. copy.ensures.kept word (slice_index_or a.nodes.now k d) (all l.node-index 0 c.loop-node-test.true) (l.invariant.copied word all k d less))
          (subst (HasWordInside a.low word copy.new.part) (get_or_default a.nodes.now l.node-index 0 d c.loop-node-test.true) (copy.ensures.copied word (all l.node-index 0 c.loop-node-test.true))) i inside;
      kept = λ word u all here. copy.ensures.kept word u (all l.node-index 0 c.loop-node-test.true) (l.invariant.kept word u all here);
    }

pub returns-clause-copied : goal.returns-clause-copied
returns-clause-copied c = λ word all i d inside. c.loop-node.invariant.copied word all i d (omega (arith, inside, c.loop-node-test.false))
