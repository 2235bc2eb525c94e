use Rattle.std.proofs.lemmas.List.Sorted.{IsNonDecreasingBy-from_sort}
use Rattle.large_pack.proofs.Unrepeated.{seen_apart}
use Rattle.large_pack.proofs.merging.are_apart.Goals as goal

pub returns : goal.returns
returns c h =
    seen_apart c.args.edges.now c.in-Ok.keys.items c.sort_unstable.new.self.items c.has_repeat.result c.in-Ok.ensures c.sort_unstable.ensures.permutation
    (IsNonDecreasingBy-from_sort (λ x. x) c.sort_unstable.new.self.items c.sort_unstable.ensures.sorted) (rw c.as_slice.ensures.value at c.has_repeat.ensures) h
