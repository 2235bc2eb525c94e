use Rattle.std.proofs.Common.{◌∙◌, sym}
use Rattle.rule_lang.proofs.FirstTokens.{near_two, near_found}
use Rattle.rule_lang.proofs.Forms.{word_first}
use Rattle.rule_lang.proofs.lex.word.Goals as goal

pub slice_bounds-split_word-count : goal.slice_bounds-split_word-count
slice_bounds-split_word-count c = near_two c.args.bytes.now (sym c.is_near.ensures ∙ c.if-is_near.true)

pub slice_bounds-split_word-start : goal.slice_bounds-split_word-start
slice_bounds-split_word-start c = near_two c.args.bytes.now (sym c.is_near.ensures ∙ c.if-is_near.true)

pub returns-then-is_near : goal.returns-then-is_near
returns-then-is_near c = near_found c.args.bytes.now c.split_word.result.0.now c.split_word.result.1.now (sym c.is_near.ensures ∙ c.if-is_near.true) c.split_word.ensures

pub returns : goal.returns
returns c = word_first c.args.bytes.now c.split_word-2.result.0.now c.split_word-2.result.1.now c.requires (sym c.is_near.ensures ∙ c.if-is_near.false) c.split_word-2.ensures
