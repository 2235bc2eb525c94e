use Rattle.run_picture.proofs.EachLink.{each_link_has_its_line}
use Rattle.run_picture.proofs.laws.each_link_has_its_line.Goals as goal

pub returns : goal.returns
returns c = record { links = each_link_has_its_line }
