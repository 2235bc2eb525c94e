use Rattle.std.proofs.Common.{◌≡◌, ◌≤◌, ℕ, length, arith}
use Rattle.std.specs.List.Sorted.{IsNonDecreasing}
use Rattle.std.proofs.lemmas.List.Sorted.{IsNonDecreasingBy-from_sort, length_permutation}
use Rattle.run_counts.proofs.Ranks.{stays}
use Rattle.run_counts.proofs.quantiles.sort.Goals as goal

pub returns : goal.returns
returns c =
    let before = c.args.numbers.now.items in
    let after = c.sort_unstable.new.self.items in
    let same = c.sort_unstable.ensures.permutation in
    let long : length after ≡ length before = length_permutation before after same in
    let rising : IsNonDecreasing after = IsNonDecreasingBy-from_sort (λ x. x) after c.sort_unstable.ensures.sorted in
    record {
      length = long;
      sorted = rising;
      same = λ percent below. stays percent before after below (omega (arith, long, c.requires.some)) same rising;
    }
