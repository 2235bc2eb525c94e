use Rattle.model_text.specs.View.{tok_of}
use Rattle.model_text.proofs.Lexing.{near_is}
use Rattle.model_text.proofs.lex.near.Goals as goal

pub returns-clause-token : goal.returns-clause-token
returns-clause-token c = near_is c.args.bytes.now c.word-name.result.now (tok_of c.in_ok-near_token.field-0) c.word-name.ensures.word c.in_ok-near_token.ensures
