use Rattle.std.proofs.Common.{◌≡◌, ◌≤◌, ◌==◌, count_by, take}
use Rattle.app_calls.proofs.large.tally.count_of.Given as goal

abbrev pub invariant-loop-number : goal.invariant-loop-number
invariant-loop-number l = record {
  counted : l.count ≡ count_by (λ n. n == l.value) (take l.number-index l.numbers);
  few : l.count ≤ l.number-index;
}
