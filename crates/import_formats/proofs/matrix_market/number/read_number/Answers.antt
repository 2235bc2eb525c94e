use Rattle.import_formats.proofs.matrix_market.Numerals.{no_number}
use Rattle.import_formats.proofs.matrix_market.number.read_number.Goals as goal

pub returns-in-Err : goal.returns-in-Err
returns-in-Err c = no_number c.args.word.now c.as_bytes.result.now c.in-Err.field-0 c.all_digits.result c.in-Err.ensures.value.0 c.as_bytes.ensures.value c.all_digits.ensures c.if-not-all_digits.false
