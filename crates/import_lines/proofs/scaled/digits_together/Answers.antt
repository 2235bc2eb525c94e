use Rattle.import_lines.proofs.Digits.{together_some, together_none}
use Rattle.import_lines.proofs.scaled.digits_together.Goals as goal

pub returns-in-Some : goal.returns-in-Some
returns-in-Some c = together_some c.args.front.now c.args.back.now c.in-Some.value c.value_behind-in-Some.result c.in-Some.ensures.1 c.value_behind-in-Some.ensures

pub returns-in-None : goal.returns-in-None
returns-in-None c = together_none c.args.front.now c.args.back.now c.in-None.ensures
