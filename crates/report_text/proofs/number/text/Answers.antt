use Rattle.std.proofs.lemmas.Str.{IsUtf8-from_ascii}
use Rattle.rule_lang.proofs.Bytes.{digits_ascii}
use Rattle.report_text.proofs.number.text.Goals as goal

pub returns-in-Err : goal.returns-in-Err
returns-in-Err c = record {
  same = absurd (c.in-Err.ensures.cases.0 (IsUtf8-from_ascii c.args.digits.now (digits_ascii c.args.digits.now c.requires.digits)));
}
