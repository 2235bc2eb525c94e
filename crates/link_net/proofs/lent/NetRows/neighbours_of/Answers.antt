use Rattle.std.proofs.Common.{ℕ, List, ap, map, sym}
use Rattle.link_net.proofs.Finds.{no_row}
use Rattle.link_net.proofs.lent.NetRows.neighbours_of.Goals as goal

pub returns-in-None : goal.returns-in-None
returns-in-None c = record {
  exact = ap (λ (r : List (ℕ × ℕ)). map (λ a. a.0) r) (sym (no_row c.args.self.now c.args.node (λ r. map (λ a. a.0) r) c.in-None.ensures.value));
}
