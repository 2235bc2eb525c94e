use Rattle.std.proofs.Common.{◌≡◌, ◌-◌, map}
use Rattle.run_cuts.specs.Counting.{after_all}
use Rattle.run_cuts.proofs.Noted.{in_first}
use Rattle.run_cuts.proofs.walking.count_rounds.Given as goal

abbrev pub invariant-loop-round : goal.invariant-loop-round
invariant-loop-round l = record {
  walk : l.walk ≡ record { plan = l.plan; round = l.round };
  counted : l.counted ≡ map (after_all (in_first l.plan (l.round - l.plan.start))) l.initial.counted;
}
