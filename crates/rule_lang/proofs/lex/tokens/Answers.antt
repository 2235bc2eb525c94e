use Rattle.std.proofs.Common.{arith, length}
use Rattle.std.specs.Option.{option_map}
use Rattle.rule_lang.specs.View.{tok_of, toks_of}
use Rattle.rule_lang.specs.Lexing.{lefts_at}
use Rattle.rule_lang.proofs.Lexing.{lexes_start, lexes_step, lexes_end, stand_end}
use Rattle.rule_lang.proofs.lex.tokens.Goals as goal

pub loop-at-init : goal.loop-at-init
loop-at-init c = rw c.new-lexemes.ensures.items (lexes_start c.args.text.now, omega arith, tt)

pub loop-at-preserved : goal.loop-at-preserved
loop-at-preserved c =
    let text = c.args.text.now in
    let before = c.loop-at.lexemes.items in (
      rw (c.in_ok-add.ensures.tokens, c.in_ok-add.ensures.lefts (length text))
          (lexes_step text c.loop-at.at (toks_of before) (lefts_at (length text) before) (option_map tok_of c.in-Some.token) c.in-Some.rest.now c.loop-at.invariant.1 c.loop-at.invariant.0 c.in-Some.ensures.0 c.in-Some.ensures.1),
      omega arith,
      c.in_ok-add.ensures.places (length text) (omega arith) c.loop-at.invariant.2,
    )

pub returns-clause-tokens : goal.returns-clause-tokens
returns-clause-tokens c =
    let text = c.args.text.now in
    lexes_end text c.loop-at.at (toks_of c.loop-at.lexemes.items) (lefts_at (length text) c.loop-at.lexemes.items) c.loop-at-test.false c.loop-at.invariant.0

pub returns-clause-stand : goal.returns-clause-stand
returns-clause-stand c = stand_end c.args.text.now c.loop-at.at c.loop-at.lexemes.items c.loop-at-test.false c.loop-at.invariant.0 c.loop-at.invariant.2
