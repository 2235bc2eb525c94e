use Rattle.rule_lang.specs.Tokens.{is_word_byte}
use Rattle.rule_lang.proofs.Bytes.{span_at, word_ascii}
use Rattle.model_text.proofs.lex.word.Goals as goal

pub text-requires : goal.text-requires
text-requires c = rw c.run_length.ensures.exact (word_ascii _ (span_at is_word_byte c.args.bytes.now).each)
