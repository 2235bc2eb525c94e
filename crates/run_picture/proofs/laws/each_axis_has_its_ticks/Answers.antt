use Rattle.run_picture.proofs.AxisTicks.{each_axis_has_ticks, ticks_are_few, ticks_are_one}
use Rattle.run_picture.proofs.laws.each_axis_has_its_ticks.Goals as goal

pub returns : goal.returns
returns c = record { some = each_axis_has_ticks; one = ticks_are_one; few = ticks_are_few }
