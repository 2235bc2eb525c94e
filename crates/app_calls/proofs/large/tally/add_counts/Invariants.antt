use Rattle.std.proofs.Common.{◌≡◌, ◌==◌, ◌++◌, count_by, map, not, take}
use Rattle.app_calls.specs.Counted.{is_in}
use Rattle.app_calls.proofs.large.tally.add_counts.Given as goal

abbrev pub invariant-loop-place : goal.invariant-loop-place
invariant-loop-place l = record {
  words : l.words.items ≡ l.initial.words.items ++ map (λ v. count_by (λ n. n == v) l.numbers) (take l.place l.values);
  others : l.others ≡ count_by (λ n. not (is_in (take l.place l.values) n)) l.numbers;
}
