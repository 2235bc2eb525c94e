use Rattle.std.proofs.Common.{ap, ◌∙◌, arith, length-set}
use Rattle.rule_check.specs.Table.{start_of}
use Rattle.rule_check.specs.Loops.{with_none}
use Rattle.rule_check.specs.Shapes.{part_shape}
use Rattle.rule_check.proofs.Steps.{updated_step}
use Rattle.rule_check.proofs.words.start_words.Goals as goal

pub loop-k-preserved : goal.loop-k-preserved
loop-k-preserved c =
    let d = c.index-gatherers-k.result in
    record {
      long = simp length-set c.loop-k.invariant.long;
      rest = updated_step part_shape with_none c.args.gatherers.now d c.loop-k.words c.loop-k.k c.opening.result (omega arith) (omega arith) (c.opening.ensures.exact ∙ ap (λ g. start_of g.agg) c.index-gatherers-k.is) ∙ c.loop-k.invariant.rest;
    }
