use Rattle.std.proofs.Common.{rules, tests}
use Rattle.std.specs.Prelude.{not}
use Rattle.std.proofs.lemmas.Iterator.{YieldsList-from_slice}
use Rattle.std.proofs.lemmas.Iterator.Search.{position_from_yields_List}
use Rattle.std.specs.Char.{is_ascii_digit}
use Rattle.rule_lang.proofs.Bytes.{prefix_found}
use Rattle.rule_lang.proofs.lex.digits_length.Goals as goal

pub returns : goal.returns
returns c =
    prefix_found is_ascii_digit c.args.bytes.now c.position.result c.unwrap_or.result (position_from_yields_List (λ b. not (is_ascii_digit b)) _ _ _ c.position.ensures.ran (YieldsList-from_slice c.args.bytes.now cc) (λ x b q k. search (rules, tests))) c.unwrap_or.ensures
