use Rattle.large_pack.proofs.Halving.{survey_both}
use Rattle.large_pack.proofs.shared.both_surveys.Goals as goal

pub returns : goal.returns
returns c = record {
  exact = λ o es fs one two. survey_both o es fs c.args.first c.args.second _ one two c.max.ensures c.or.ensures c.or-2.ensures;
}
