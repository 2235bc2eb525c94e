use Rattle.std.proofs.Common.{length, ◌+◌, ◌*◌}
use Rattle.rounds_blocks.proofs.in_ranges.+ranges.Given as goal

abbrev pub decreases-work_from : goal.decreases-work_from
decreases-work_from g l = 5 * length l.shares.now.items

abbrev pub decreases-work_both : goal.decreases-work_both
decreases-work_both g l = 5 * length l.shares.now.items + 4

abbrev pub decreases-beside : goal.decreases-beside
decreases-beside g l = 5 * length l.others.now.shares.now.items + 3

abbrev pub decreases-beside-from_here : goal.decreases-beside-from_here
decreases-beside-from_here g l = 5 * length l.others.now.shares.now.items + 2

abbrev pub decreases-work_others : goal.decreases-work_others
decreases-work_others g l = 5 * length l.others.now.shares.now.items + 1
