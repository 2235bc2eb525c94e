use Rattle.import_lines.proofs.Numerals.{whole_back, whole_front}
use Rattle.import_lines.proofs.number.is_whole_together.Goals as goal

pub returns-then-all_digits : goal.returns-then-all_digits
returns-then-all_digits c =
    whole_back c.args.front.now c.args.back.now c.is_empty.result c.is_empty.ensures c.if-is_empty.false c.all_digits.result c.all_digits-then-all_digits.result c.all_digits.ensures c.if-all_digits.true c.all_digits-then-all_digits.ensures

pub returns-else-all_digits : goal.returns-else-all_digits
returns-else-all_digits c = whole_front c.args.front.now c.args.back.now c.is_empty.result c.is_empty.ensures c.if-is_empty.false c.all_digits.result c.all_digits.ensures c.if-all_digits.false
