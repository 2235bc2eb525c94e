use Rattle.run_picture.proofs.KeyLaws.{each_picture_has_a_key, values_lie_between}
use Rattle.run_picture.proofs.OneKey.{one_key}
use Rattle.run_picture.proofs.laws.each_picture_has_one_key.Goals as goal

pub returns : goal.returns
returns c = record { some = each_picture_has_a_key; one = one_key; ends = values_lie_between }
