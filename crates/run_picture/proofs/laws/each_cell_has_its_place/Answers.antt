use Rattle.run_picture.proofs.CellTexts.{text_tells_cells}
use Rattle.run_picture.proofs.EachCell.{each_cell_has_its_place}
use Rattle.run_picture.proofs.laws.each_cell_has_its_place.Goals as goal

pub returns : goal.returns
returns c = record { places = each_cell_has_its_place; tell = text_tells_cells }
