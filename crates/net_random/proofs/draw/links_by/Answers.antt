use Rattle.std.proofs.lemmas.Result.{IfOk-weaker}
use Rattle.net_random.specs.declared.random_network.RandomNetwork.{RandomNetwork}
use Rattle.net_random.proofs.Growing.{tree_has, preferential_has}
use Rattle.net_random.proofs.Sized.{sized}
use Rattle.net_random.proofs.draw.links_by.Goals as goal

pub random_links-requires-clause-room : goal.random_links-requires-clause-room
random_links-requires-clause-room c = (sized c.args.bounds (RandomNetwork.Random c.in-Random.nodes c.in-Random.links) (rw c.in-Random.is at c.requires)).room

pub returns-in-Tree : goal.returns-in-Tree
returns-in-Tree c =
    let size = sized c.args.bounds (RandomNetwork.Tree c.in-Tree.nodes) (rw c.in-Tree.is at c.requires) in
    rw c.in-Tree.is (IfOk-weaker c.tree_links.result _ _ (λ v e trial. tree_has c.in-Tree.nodes v.items size.some e) c.tree_links.ensures)

pub returns-in-Preferential : goal.returns-in-Preferential
returns-in-Preferential c =
    rw c.in-Preferential.is
    (IfOk-weaker c.preferential_links.result _ _ (λ v e trial. preferential_has c.in-Preferential.nodes c.in-Preferential.each v.items e) c.preferential_links.ensures)
