use Rattle.std.proofs.Common.{◌≡◌, ◌∙◌, ◌++◌, take, drop, length}
use Rattle.std.proofs.lemmas.List.Sorted.{IsNonDecreasingBy-from_sort}
use Rattle.std.proofs.lemmas.List.{take_at}
use Rattle.large_pack.proofs.pack.sort_keys.Goals as goal

pub returns : goal.returns
returns g c =
    let keys = c.args.keys.now in
    let sorted = c.par_sort_unstable.new.s in
    let long : length sorted ≡ keys.len = c.par_sort_unstable.ensures.len ∙ c.as_mut_slice.ensures.len in
    let same : take keys.len (sorted ++ drop (length sorted) keys.items) ≡ sorted = take_at sorted (drop (length sorted) keys.items) keys.len long in
    record {
      permutation = rw same (rw c.as_mut_slice.ensures.value at c.par_sort_unstable.ensures.permutation);
      rising = rw same (IsNonDecreasingBy-from_sort (λ x. x) sorted c.par_sort_unstable.ensures.sorted);
    }
