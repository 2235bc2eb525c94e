use Rattle.std.proofs.Common.{ℕ, List, ap, map, sym}
use Rattle.link_net.proofs.Finds.{no_row}
use Rattle.link_net.proofs.network.Network.neighbours_of.Goals as goal

pub returns-in-None-clause-exact : goal.returns-in-None-clause-exact
returns-in-None-clause-exact c =
    ap (λ (r : List (ℕ × ℕ)). map (λ a. a.0) r) (sym (no_row c.args.self.now c.args.node (λ r. map (λ a. a.0) r) c.in-None.ensures.value))
