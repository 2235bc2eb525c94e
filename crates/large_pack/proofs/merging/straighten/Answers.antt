use Rattle.std.proofs.Common.{◌==◌, not, rules}
use Rattle.std.proofs.lemmas.Fn.{filter_same}
use Rattle.large_pack.specs.declared.ranked.Ranked.{Ranked}
use Rattle.large_pack.proofs.merging.straighten.Goals as goal

pub returns-in-Drop : goal.returns-in-Drop
returns-in-Drop c =
    rw c.in-Drop.is (filter_same _ (λ (e : Ranked). not (e.first == e.second)) _ (λ x b f' k. search rules) c.args.edges.now.items c.retain.new.self.items c.retain.ensures.filtered)
