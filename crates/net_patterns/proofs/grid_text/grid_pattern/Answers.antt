use Rattle.std.proofs.Common.{ap, ◌∙◌, arith}
use Rattle.net_patterns.specs.RunSteps.{pattern_in}
use Rattle.net_patterns.proofs.GridReads.{fitting, reads_made}
use Rattle.net_patterns.proofs.RunGrammar.{says}
use Rattle.net_patterns.proofs.grid_text.grid_pattern.Goals as goal

pub text_of-requires-clause-states : goal.text_of-requires-clause-states
text_of-requires-clause-states c = fitting c.args.format c.args.values.now c.most_of.ensures c.first_above.ensures c.in_default.is

pub returns-clause-reads_back : goal.returns-clause-reads_back
returns-clause-reads_back c =
    says c.in_ok-text.text.items (ap pattern_in c.in_ok-text.ensures.text
    ∙ reads_made c.args.format c.args.values.now c.args.width (omega (arith, c.ranges.width)) c.requires.width (omega arith) c.most_of.ensures c.first_above.ensures c.in_default.is)
