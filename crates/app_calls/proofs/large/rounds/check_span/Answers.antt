use Rattle.std.proofs.Common.{arith}
use Rattle.app_calls.proofs.Moves.{span_there}
use Rattle.app_calls.proofs.large.rounds.check_span.Goals as goal

pub returns-clause-there : goal.returns-clause-there
returns-clause-there c = span_there c.args.start c.args.round (omega (arith, c.if-round-start.false)) (omega (arith, c.if-round-gt-MOST_ROUNDS.false))
