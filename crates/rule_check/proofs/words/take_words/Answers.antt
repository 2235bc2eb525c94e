use Rattle.std.proofs.Common.{◌≡◌, ap, sym, ◌∙◌, arith, get_or, length-set}
use Rattle.rule_check.specs.Table.{gather_step}
use Rattle.rule_check.specs.Loops.{first_of, ran, with_near}
use Rattle.rule_check.specs.Shapes.{part_shape}
use Rattle.rule_check.specs.Frames.{seen}
use Rattle.rule_check.proofs.Steps.{updated_step}
use Rattle.rule_check.proofs.words.take_words.Goals as goal

pub loop-k-preserved : goal.loop-k-preserved
loop-k-preserved c =
    let d = c.index-gatherers-k.result in
    let f = seen c.args.frame.now in
    let ws = c.loop-k.words in
    let k = c.loop-k.k in
    let value : c.run-value.result ≡ ran f d.code.items = sym (ap first_of c.run-value.ensures.exact) ∙ ap (λ code. ran f code) c.deref.ensures.value in
    record {
      long = simp length-set c.loop-k.invariant.long;
      rest = updated_step part_shape (with_near f) c.args.gatherers.now d ws k c.gathered.result (omega arith) (omega arith) (c.gathered.ensures.exact ∙ ap (λ x. gather_step d.agg (get_or ws k 0) x) value ∙ ap (λ g. with_near f (part_shape g) (get_or ws k 0)) c.index-gatherers-k.is) ∙ c.loop-k.invariant.rest;
    }
