use Rattle.run_picture.proofs.KeyLaws.{same_class_same_value, same_colour_same_value, states_keep_their_colours}
use Rattle.run_picture.proofs.laws.same_class_same_value.Goals as goal

pub returns : goal.returns
returns c = record { colours = same_class_same_value; fills = same_colour_same_value; states = states_keep_their_colours }
