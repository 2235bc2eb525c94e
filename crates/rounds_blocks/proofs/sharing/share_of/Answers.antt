use Rattle.std.proofs.Common.{◌∙◌}
use Rattle.rounds_blocks.proofs.sharing.share_of.Goals as goal

pub returns-clause-share : goal.returns-clause-share
returns-clause-share c = λ nodes batches long few. record {
  inside = few;
  computes = c.in_ok-block.ensures.rules;
  wide = c.in_ok-columns.ensures.fields ∙ c.requires.fields;
  long = c.in_ok-columns.ensures.nodes nodes long;
}
