use Rattle.rule_lang.proofs.Program.{canonical_has, canonical_read}
use Rattle.rule_lang.proofs.source.canonical_is_read_back.Goals as goal

pub returns : goal.returns
returns c = record { spelled = canonical_has; read_back = canonical_read }
