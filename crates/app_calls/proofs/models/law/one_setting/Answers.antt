use Rattle.app_calls.proofs.NameLines.{one_setting}
use Rattle.app_calls.proofs.models.law.one_setting.Goals as goal

pub returns : goal.returns
returns c = record { one = one_setting }
