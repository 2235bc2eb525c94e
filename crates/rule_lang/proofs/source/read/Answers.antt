use Rattle.rule_lang.specs.View.{items_of, toks_of}
use Rattle.rule_lang.proofs.Program.{is_program}
use Rattle.rule_lang.proofs.source.read.Goals as goal

pub invariant_of-result : goal.invariant_of-result
invariant_of-result c = is_program c.args.text.now (toks_of c.in_ok-lexemes.lexemes.items) (items_of c.in-Ok.items.items) c.in_ok-lexemes.ensures.tokens.0 (rw c.deref.ensures.value at c.in-Ok.ensures)
