use Rattle.std.proofs.Common.{◌≡◌, drop}
use Rattle.app_calls.specs.Words.{list_fault}
use Rattle.app_calls.specs.WatchAnswers.{plan_from}
use Rattle.app_calls.proofs.large.told.check_rounds.Given as goal

abbrev pub invariant-loop-round : goal.invariant-loop-round
invariant-loop-round l = list_fault (plan_from l.start) l.least (drop l.round-index l.rounds) ≡ list_fault (plan_from l.start) l.start l.rounds
