use Rattle.import_lines.proofs.LinesCut.{says_hash, says_percent, says_no_word}
use Rattle.import_lines.proofs.words.says_nothing.Goals as goal

pub returns-then-byte-eq35 : goal.returns-then-byte-eq35
returns-then-byte-eq35 c = says_hash c.args.line.now c.split_at.result.1.now c.separators_length.result c.separators_length.ensures.exact c.split_at.ensures.back c.in-Some.byte.now c.in-Some.ensures.value c.if-byte-eq35.true

pub returns-else-byte-eq35 : goal.returns-else-byte-eq35
returns-else-byte-eq35 c = says_percent c.args.line.now c.split_at.result.1.now c.separators_length.result c.separators_length.ensures.exact c.split_at.ensures.back c.in-Some.byte.now c.in-Some.ensures.value c.if-byte-eq35.false

pub returns-in-None : goal.returns-in-None
returns-in-None c = says_no_word c.args.line.now c.split_at.result.1.now c.separators_length.result c.separators_length.ensures.exact c.split_at.ensures.back c.in-None.ensures.value
