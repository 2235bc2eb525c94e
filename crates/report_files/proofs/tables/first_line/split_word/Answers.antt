use Rattle.std.proofs.Common.{arith}
use Rattle.std.proofs.lemmas.List.Sums.{prefix_len-le-length}
use Rattle.rule_lang.specs.Tokens.{is_word_byte}
use Rattle.rule_lang.proofs.Bytes.{split_is}
use Rattle.report_files.proofs.tables.first_line.split_word.Goals as goal

pub split_at-requires : goal.split_at-requires
split_at-requires c = let h = prefix_len-le-length is_word_byte c.args.bytes.now in let e = c.word_length.ensures in omega arith

pub returns : goal.returns
returns c = split_is is_word_byte c.args.bytes.now c.split_at.result.0.now c.split_at.result.1.now c.word_length.result c.word_length.ensures c.split_at.ensures.front c.split_at.ensures.back
