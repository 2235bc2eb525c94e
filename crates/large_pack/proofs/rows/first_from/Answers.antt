use Rattle.large_pack.proofs.Offsets.{is_first}
use Rattle.large_pack.proofs.rows.first_from.Goals as goal

pub returns-else-arcs-place : goal.returns-else-arcs-place
returns-else-arcs-place c = is_first c.args.arcs.now c.args.node c.loop-place.place c.requires.sorted c.loop-place.invariant.bound c.loop-place.invariant.before c.if-arcs-place.false
