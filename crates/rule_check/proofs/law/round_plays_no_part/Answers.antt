use Rattle.rule_check.proofs.AnyRound.{next_state-any_round}
use Rattle.rule_check.proofs.law.round_plays_no_part.Goals as goal

pub returns : goal.returns
returns c = record { round = next_state-any_round }
