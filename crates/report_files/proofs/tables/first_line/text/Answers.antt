use Rattle.std.proofs.lemmas.Str.{IsUtf8-from_ascii}
use Rattle.rule_lang.proofs.Bytes.{word_ascii}
use Rattle.report_files.proofs.tables.first_line.text.Goals as goal

pub returns-in-Err : goal.returns-in-Err
returns-in-Err c = record {
  same = absurd (c.in-Err.ensures.cases.0 (IsUtf8-from_ascii c.args.word.now (word_ascii c.args.word.now c.requires.word)));
}
