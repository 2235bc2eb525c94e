use Rattle.std.proofs.Common.{rules}
use Rattle.app_calls.proofs.LaidOut.{laid_out}
use Rattle.app_calls.proofs.large.lists.check_lists.Goals as goal

pub returns-in-Ok-clause-rows : goal.returns-in-Ok-clause-rows
returns-in-Ok-clause-rows c = laid_out c.args.lists.now.offsets.now c.args.lists.now.neighbours.now c.args.lists.now.weights.now (search rules)
