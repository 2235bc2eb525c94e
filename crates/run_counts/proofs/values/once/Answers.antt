use Rattle.std.proofs.Common.{eqb}
use Rattle.std.proofs.lemmas.List.Filters.{dedup_is}
use Rattle.run_counts.proofs.Sorting.{are_once}
use Rattle.run_counts.proofs.values.once.Goals as goal

pub returns : goal.returns
returns c = record {
  once =
      are_once c.args.numbers.items c.sort.new.self.items c.dedup.new.self.items c.sort.ensures.permutation c.in_ok-sort.ensures.sorted
      (dedup_is eqb c.sort.new.self.items c.dedup.new.self.items c.dedup.ensures.filtered);
}
