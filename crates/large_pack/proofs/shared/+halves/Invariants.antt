use Rattle.std.proofs.Common.{◌*◌, ◌+◌}
use Rattle.large_pack.proofs.shared.+halves.Given as goal

abbrev pub decreases-read_shared : goal.decreases-read_shared
decreases-read_shared g l = 2 * l.threads

abbrev pub decreases-before : goal.decreases-before
decreases-before g l = 2 * l.half + 1

abbrev pub decreases-behind : goal.decreases-behind
decreases-behind g l = 2 * l.rest + 1
