use Rattle.std.proofs.Common.{arith}
use Rattle.run_picture.proofs.Counts.{moving_few}
use Rattle.run_picture.proofs.animation.moving_text.Goals as goal

pub moving_of-requires-clause-nodes : goal.moving_of-requires-clause-nodes
moving_of-requires-clause-nodes g c =
    omega (arith, c.nodes.ensures.count, moving_few c.args.plan.now c.args.drawing.now c.args.grid.width c.requires.fits)
