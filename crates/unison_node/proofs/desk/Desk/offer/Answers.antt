use Rattle.std.proofs.Common.{rules, []}
use Rattle.unison_node.proofs.desk.Desk.offer.Goals as goal

pub returns-in-Level-clause-after : goal.returns-in-Level-clause-after
returns-in-Level-clause-after c =
    let step = c.take.ensures.step [] in
    rw step (search rules)
