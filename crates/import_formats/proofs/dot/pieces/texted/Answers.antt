use Rattle.import_formats.proofs.dot.TextedPieces.{texted-utf8, texted-not_utf8}
use Rattle.import_formats.proofs.dot.pieces.texted.Goals as goal

pub returns-in-Ok-clause-piece : goal.returns-in-Ok-clause-piece
returns-in-Ok-clause-piece c = texted-utf8 c.args.kind c.args.bytes.now c.in-Ok.text.now c.args.size c.in-Ok.ensures.cases.0 c.in-Ok.ensures.cases.1

pub returns-in-Err-clause-piece : goal.returns-in-Err-clause-piece
returns-in-Err-clause-piece c = texted-not_utf8 c.args.kind c.args.bytes.now c.args.size c.in-Err.ensures.cases.0
