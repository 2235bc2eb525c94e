use Rattle.std.proofs.Common.{arith}
use Rattle.std.proofs.lemmas.List.Sums.{prefix_len-le-length}
use Rattle.rule_lang.specs.Tokens.{is_word_byte}
use Rattle.rule_lang.proofs.Bytes.{split_is, word_ascii}
use Rattle.rule_lang.proofs.lex.split_word.Goals as goal

pub split_at-requires : goal.split_at-requires
split_at-requires c = let h = prefix_len-le-length is_word_byte c.args.bytes.now in let e = c.word_length.ensures in omega arith

pub text-requires : goal.text-requires
text-requires c =
    let s = split_is is_word_byte c.args.bytes.now c.split_at.result.0.now c.split_at.result.1.now c.word_length.result c.word_length.ensures c.split_at.ensures.front c.split_at.ensures.back in
    word_ascii c.split_at.result.0.now s.each

pub returns : goal.returns
returns c =
    let s = split_is is_word_byte c.args.bytes.now c.split_at.result.0.now c.split_at.result.1.now c.word_length.result c.word_length.ensures c.split_at.ensures.front c.split_at.ensures.back in
    rw c.text.ensures s
