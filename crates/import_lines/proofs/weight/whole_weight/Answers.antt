use Rattle.import_lines.proofs.Numerals.{too_large}
use Rattle.import_lines.proofs.weight.whole_weight.Goals as goal

pub returns-in-Err : goal.returns-in-Err
returns-in-Err c = too_large c.args.word.now c.as_bytes.result.now c.in-Err.field-0 c.is_whole.result c.in-Err.ensures.value.0 c.as_bytes.ensures.value c.is_whole.ensures c.if-not-is_whole.false
