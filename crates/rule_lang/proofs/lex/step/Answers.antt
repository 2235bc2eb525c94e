use Rattle.std.proofs.Common.{◌∙◌, sym, arith}
use Rattle.std.proofs.lemmas.List.Sums.{prefix_len-le-length}
use Rattle.rule_lang.specs.Tokens.{is_inside_line}
use Rattle.rule_lang.specs.View.{tok_of}
use Rattle.rule_lang.proofs.Lexing.{blank_step, comment_step, token_step, none_step}
use Rattle.rule_lang.proofs.lex.step.Goals as goal

pub returns-then-blank : goal.returns-then-blank
returns-then-blank c = blank_step c.args.bytes.now c.in_ok-first.first.now c.in_ok-first.rest.now c.in_ok-first.ensures.cases.0 (sym c.blank.ensures ∙ c.if-blank.true)

pub slice_bounds-result-count : goal.slice_bounds-result-count
slice_bounds-result-count c = let h = prefix_len-le-length is_inside_line c.in_ok-first.rest.now in let e = c.line_length.ensures in omega arith

pub slice_bounds-result-start : goal.slice_bounds-result-start
slice_bounds-result-start c = let h = prefix_len-le-length is_inside_line c.in_ok-first.rest.now in let e = c.line_length.ensures in omega arith

pub returns-then-first-eq35 : goal.returns-then-first-eq35
returns-then-first-eq35 c = comment_step c.args.bytes.now c.in_ok-first.first.now c.in_ok-first.rest.now c.line_length.result c.in_ok-first.ensures.cases.0 c.if-first-eq35.true c.line_length.ensures

pub returns-in_err-token : goal.returns-in_err-token
returns-in_err-token c = rw c.from_residual-in_err-token.ensures (none_step c.args.bytes.now c.in_ok-first.first.now c.in_ok-first.rest.now c.in_ok-first.ensures.cases.0 (sym c.blank.ensures ∙ c.if-blank.false) c.if-first-eq35.false c.in_err-token.ensures)

pub returns : goal.returns
returns c =
    let h = c.in_ok-token.ensures in
    token_step c.args.bytes.now c.in_ok-token.rest.now (tok_of c.in_ok-token.token) c.in_ok-first.first.now c.in_ok-first.rest.now c.in_ok-first.ensures.cases.0 (sym c.blank.ensures ∙ c.if-blank.false) c.if-first-eq35.false h.0 h.1
