use Rattle.import_formats.proofs.dot.TokensRead.{tokens_once}
use Rattle.import_formats.proofs.dot.laws.one_list_of_tokens.Goals as goal

pub returns : goal.returns
returns c = record { once = tokens_once }
