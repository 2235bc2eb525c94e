use Rattle.std.proofs.Common.{rules}
use Rattle.std.proofs.lemmas.Fn.{dedup_same}
use Rattle.large_pack.specs.Ranks.{alike}
use Rattle.large_pack.proofs.Beating.{merged}
use Rattle.large_pack.proofs.merging.merge.Goals as goal

pub returns : goal.returns
returns c =
    merged c.args.edges.now.items c.sort_unstable.new.self.items c.requires c.sort_unstable.ensures.permutation c.sort_unstable.ensures.sorted c.dedup_by.new.self.items
    (dedup_same _ alike _ (λ x y b f' x' y' k. search rules) c.sort_unstable.new.self.items c.dedup_by.new.self.items c.dedup_by.ensures.filtered)
