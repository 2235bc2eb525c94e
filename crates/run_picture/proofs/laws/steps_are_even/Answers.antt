use Rattle.run_picture.proofs.EvenSteps.{each_step_has_its_share, steps_are_even, steps_are_one, steps_go_from_end_to_end}
use Rattle.run_picture.proofs.KeyLaws.{scales_are_wide}
use Rattle.run_picture.proofs.laws.steps_are_even.Goals as goal

pub returns : goal.returns
returns c = record { steps = steps_are_even; one = steps_are_one; shares = each_step_has_its_share; wide = scales_are_wide; ends = steps_go_from_end_to_end }
