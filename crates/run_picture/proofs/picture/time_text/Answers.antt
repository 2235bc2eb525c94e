use Rattle.std.proofs.Common.{ap, arith, length}
use Rattle.run_picture.proofs.Counts.{cells_few}
use Rattle.run_picture.proofs.picture.time_text.Goals as goal

pub picture_of-requires-clause-count : goal.picture_of-requires-clause-count
picture_of-requires-clause-count g c =
    omega (arith, ap length c.deref.ensures.value, ap length c.in_ok-values.ensures.values, cells_few c.args.plan.now c.args.drawing.now c.requires.fits)
