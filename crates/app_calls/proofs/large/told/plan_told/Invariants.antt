use Rattle.std.proofs.Common.{◌≡◌, ◌≤◌, ◌*◌, ◌++◌, ℕ, drop, length, None}
use Rattle.app_calls.specs.Refusals.{word_count}
use Rattle.app_calls.specs.Words.{list_fault}
use Rattle.app_calls.specs.Tellings.{told_at, told_count}
use Rattle.app_calls.proofs.large.told.plan_told.Given as goal

abbrev pub invariant-loop-round : goal.invariant-loop-round
invariant-loop-round l = record {
  plan : l.walk.plan ≡ l.plan;
  rest : (least : ℕ) × (l.walk.round ≤ least) × (list_fault l.plan least (drop l.round-index l.asked.rounds.now) ≡ None);
  words : l.words.items ++ told_at l.asked.telling l.plan (drop l.round-index l.asked.rounds.now) ≡ told_at l.asked.telling l.plan l.asked.rounds.now;
  count : length l.words.items ≡ l.round-index * told_count l.asked.telling (word_count l.plan);
}
