use Rattle.std.proofs.Common.{ap, ◌∙◌, arith, length-set}
use Rattle.rule_check.proofs.Steps.{updated_step}
use Rattle.rule_check.proofs.words.opening_words.Goals as goal

pub loop-k-preserved : goal.loop-k-preserved
loop-k-preserved c =
    let d = c.index-fields-k.result in
    record {
      long = simp length-set c.loop-k.invariant.long;
      rest = updated_step (λ f. f.opening) (λ v w. v) c.args.fields.now d c.loop-k.words c.loop-k.k d.opening (omega arith) (omega arith) (ap (λ f. f.opening) c.index-fields-k.is) ∙ c.loop-k.invariant.rest;
    }
