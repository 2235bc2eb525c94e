use Rattle.std.proofs.Common.{length, ◌+◌, ◌*◌}
use Rattle.rounds_blocks.proofs.merge.+copies.Given as goal

abbrev pub decreases-copy_from : goal.decreases-copy_from
decreases-copy_from g l = 3 * length l.part.now

abbrev pub decreases-beside : goal.decreases-beside
decreases-beside g l = 3 * length l.others.now + 2

abbrev pub decreases-beside-here : goal.decreases-beside-here
decreases-beside-here g l = 3 * length l.others.now + 1
