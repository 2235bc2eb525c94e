use Rattle.run_picture.proofs.EachFrame.{each_frame_has_its_colours, each_frame_has_its_time}
use Rattle.run_picture.proofs.laws.each_frame_has_its_colours.Goals as goal

pub returns : goal.returns
returns c = record { colours = each_frame_has_its_colours; times = each_frame_has_its_time }
