use Rattle.std.proofs.Common.{rules}
use Rattle.rule_lang.proofs.Bytes.{cut_at}
use Rattle.rule_lang.proofs.Expressions.{open_at, word_at}
use Rattle.rule_lang.proofs.parse.+expression.Goals as goal

pub expression-returns-in-Some : goal.expression-returns-in-Some
expression-returns-in-Some t c =
    rw (word_at c.args.depth c.args.tokens.now _ c.in-Word.word c.in-Some.word c.if-depth-eq0.false c.in-len1-up.len_at_least c.in-Word.is (search rules)) (rw (cut_at 1 c.args.tokens.now) at c.prefix.ensures)

pub expression-returns-in-Sign-Open : goal.expression-returns-in-Sign-Open
expression-returns-in-Sign-Open t c =
    rw (open_at c.args.depth c.args.tokens.now _ c.in-Sign-Open.field-0 c.if-depth-eq0.false c.in-len1-up.len_at_least c.in-Sign-Open.is (search rules)) (rw (cut_at 1 c.args.tokens.now) at c.infix.ensures)
