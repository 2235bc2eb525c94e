use Rattle.std.proofs.Common.{◌≡◌, drop}
use Rattle.app_calls.specs.Words.{list_fault}
use Rattle.app_calls.proofs.rounds.check_rounds.Given as goal

abbrev pub invariant-loop-round : goal.invariant-loop-round
invariant-loop-round l = list_fault l.plan l.least (drop l.round-index l.rounds) ≡ list_fault l.plan l.plan.start l.rounds
