use Rattle.std.proofs.Common.{arith}
use Rattle.std.proofs.lemmas.List.Sums.{prefix_len-le-length}
use Rattle.std.specs.Char.{is_ascii_digit}
use Rattle.rule_lang.proofs.Bytes.{split_is}
use Rattle.report_text.proofs.number.split_digits.Goals as goal

pub split_at-requires : goal.split_at-requires
split_at-requires c = let h = prefix_len-le-length is_ascii_digit c.args.bytes.now in let e = c.digits_length.ensures in omega arith

pub returns : goal.returns
returns c = split_is is_ascii_digit c.args.bytes.now c.split_at.result.0.now c.split_at.result.1.now c.digits_length.result c.digits_length.ensures c.split_at.ensures.front c.split_at.ensures.back
