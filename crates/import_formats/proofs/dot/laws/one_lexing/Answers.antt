use Rattle.import_formats.proofs.dot.OneLexing.{lexes_once}
use Rattle.import_formats.proofs.dot.laws.one_lexing.Goals as goal

pub returns : goal.returns
returns c = record { once = lexes_once }
