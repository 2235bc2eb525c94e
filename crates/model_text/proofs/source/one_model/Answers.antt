use Rattle.model_text.proofs.Models.{one_model}
use Rattle.model_text.proofs.source.one_model.Goals as goal

pub returns : goal.returns
returns c = record { one = one_model }
