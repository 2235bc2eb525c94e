use Rattle.std.proofs.Common.{arith, length}
use Rattle.std.specs.Option.{option_map}
use Rattle.model_text.specs.View.{tok_of, placed_all}
use Rattle.model_text.proofs.Lexing.{lexes_step, lexes_end, size_bound}
use Rattle.model_text.proofs.lex.tokens.Goals as goal

pub loop-at-preserved : goal.loop-at-preserved
loop-at-preserved c = (
  rw c.in_ok-add.ensures.tokens (lexes_step c.args.text.now c.loop-at.at c.in-Some.size (placed_all c.loop-at.lexemes.items) (option_map tok_of c.in-Some.token) (omega arith) c.loop-at.invariant.0 c.in-Some.ensures.step),
  size_bound c.args.text.now c.loop-at.at c.in-Some.size c.in-Some.ensures.bound,
  c.in_ok-add.ensures.places (length c.args.text.now) (omega arith) c.loop-at.invariant.2,
)

pub returns-clause-tokens : goal.returns-clause-tokens
returns-clause-tokens c = lexes_end c.args.text.now c.loop-at.at (placed_all c.loop-at.lexemes.items) c.loop-at-test.false c.loop-at.invariant.0
