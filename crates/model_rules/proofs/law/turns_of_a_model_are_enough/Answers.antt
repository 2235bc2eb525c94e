use Rattle.model_rules.proofs.TurnsEnough.{turns_enough}
use Rattle.model_rules.proofs.WaitingNames.{waits_forever}
use Rattle.model_rules.proofs.KnownNames.{others_known, all_known}
use Rattle.model_rules.proofs.law.turns_of_a_model_are_enough.Goals as goal

pub returns : goal.returns
returns c = record { enough = turns_enough; never = waits_forever; others = others_known; all = all_known }
