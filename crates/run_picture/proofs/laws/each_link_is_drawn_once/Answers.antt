use Rattle.run_picture.proofs.EachLink.{each_link_is_drawn_once}
use Rattle.run_picture.proofs.LinkLines.{lines_tell_links}
use Rattle.run_picture.proofs.laws.each_link_is_drawn_once.Goals as goal

pub returns : goal.returns
returns c = record { links = each_link_is_drawn_once; tell = lines_tell_links }
