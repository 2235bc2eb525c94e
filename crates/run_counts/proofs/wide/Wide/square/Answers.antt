use Rattle.std.proofs.Common.{◌∙◌, ◌^◌}
use Rattle.run_counts.proofs.Wides.{square_is}
use Rattle.run_counts.proofs.wide.Wide.square.Goals as goal

pub returns : goal.returns
returns c = record { square = c.from_parts.ensures.number ∙ square_is c.args.number (2 ^ 64) }
