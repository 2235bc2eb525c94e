use Rattle.std.proofs.Common.{length, ◌+◌, ◌*◌}
use Rattle.rounds_blocks.proofs.line.+line.Given as goal

abbrev pub decreases-each_from : goal.decreases-each_from
decreases-each_from g l = 3 * length l.s.now

abbrev pub decreases-beside : goal.decreases-beside
decreases-beside g l = 3 * length l.others.now + 2

abbrev pub decreases-beside-here : goal.decreases-beside-here
decreases-beside-here g l = 3 * length l.others.now + 1
