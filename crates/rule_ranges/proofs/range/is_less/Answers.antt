use Rattle.std.proofs.Common.{arith}
use Rattle.rule_ranges.proofs.Ranges.{some_not_less}
use Rattle.rule_ranges.proofs.range.is_less.Goals as goal

pub returns-clause-not : goal.returns-clause-not
returns-clause-not c = some_not_less c.args.a c.args.b (omega arith)
