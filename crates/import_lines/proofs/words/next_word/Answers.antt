use Rattle.import_lines.proofs.LinesCut.{skip_cut, word_cut, no_word, some_word}
use Rattle.import_lines.proofs.words.next_word.Goals as goal

pub split_at-requires : goal.split_at-requires
split_at-requires c = skip_cut c.args.text.now c.as_bytes.result.now c.separators_length.result c.as_bytes.ensures.value c.separators_length.ensures.exact c.as_bytes.ensures.utf8

pub returns-then-is_empty : goal.returns-then-is_empty
returns-then-is_empty c =
    no_word c.args.text.now c.as_bytes.result.now c.split_at.result.1.now c.separators_length.result c.is_empty.result c.as_bytes.ensures.value c.separators_length.ensures.exact c.split_at.ensures.back
    c.is_empty.ensures c.if-is_empty.true

pub split_at-requires-2 : goal.split_at-requires-2
split_at-requires-2 c = word_cut c.split_at.result.1.now c.as_bytes-2.result.now c.word_length.result c.as_bytes-2.ensures.value c.word_length.ensures.exact

pub returns : goal.returns
returns c =
    some_word c.args.text.now c.as_bytes.result.now c.split_at.result.1.now c.as_bytes-2.result.now c.split_at-2.result.0.now c.split_at-2.result.1.now c.separators_length.result c.word_length.result c.is_empty.result
    c.as_bytes.ensures.value c.separators_length.ensures.exact c.split_at.ensures.back c.is_empty.ensures c.if-is_empty.false c.as_bytes-2.ensures.value c.word_length.ensures.exact c.split_at-2.ensures.front c.split_at-2.ensures.back
