use Rattle.run_picture.proofs.EachPoint.{each_round_has_its_point}
use Rattle.run_picture.proofs.EachValue.{each_value_has_its_curve}
use Rattle.run_picture.proofs.laws.each_round_has_its_point.Goals as goal

pub returns : goal.returns
returns c = record { curves = each_value_has_its_curve; points = each_round_has_its_point }
