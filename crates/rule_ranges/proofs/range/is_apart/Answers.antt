use Rattle.rule_ranges.proofs.Ranges.{some_same}
use Rattle.rule_ranges.proofs.range.is_apart.Goals as goal

pub returns-else-a-b-clause-not : goal.returns-else-a-b-clause-not
returns-else-a-b-clause-not c = some_same c.args.a c.args.b c.if-a-b.false
