use Rattle.std.proofs.Common.{rules, tests}
use Rattle.std.specs.Prelude.{not}
use Rattle.std.proofs.lemmas.Iterator.{YieldsList-from_slice}
use Rattle.std.proofs.lemmas.Iterator.Search.{position_from_yields_List}
use Rattle.rule_lang.specs.Tokens.{is_inside_line}
use Rattle.rule_lang.proofs.Bytes.{prefix_found}
use Rattle.rule_lang.proofs.lex.line_length.Goals as goal

pub returns : goal.returns
returns c =
    prefix_found is_inside_line c.args.bytes.now c.position.result c.unwrap_or.result (position_from_yields_List (λ b. not (is_inside_line b)) _ _ _ c.position.ensures.ran (YieldsList-from_slice c.args.bytes.now cc) (λ x b q k. search (rules, tests))) c.unwrap_or.ensures
