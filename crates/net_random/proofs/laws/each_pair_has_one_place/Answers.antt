use Rattle.net_random.proofs.Pairing.{each_pair_has_one_place}
use Rattle.net_random.proofs.laws.each_pair_has_one_place.Goals as goal

pub returns : goal.returns
returns c = record { places = each_pair_has_one_place }
