use Rattle.std.proofs.Common.{◌≡◌, ◌-◌, length, map}
use Rattle.run_naive.specs.Keeping.{AreCompared, AreKnown, Before, past_of, shown}
use Rattle.run_naive.proofs.rounds.compare_rounds.Given as goal

abbrev pub invariant-loop-round : goal.invariant-loop-round
invariant-loop-round l = record {
  walk : l.walk ≡ record { plan = l.plan; round = l.round };
  first : AreCompared l.plan (map past_of l.nodes) (Before (l.round - l.plan.start)) l.first;
  known : AreKnown l.plan (map shown l.nodes) l.round l.lockstep;
  room : length l.lockstep ≡ length l.plan.network;
}
