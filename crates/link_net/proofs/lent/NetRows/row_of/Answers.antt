use Rattle.std.proofs.Common.{◌∙◌, sym}
use Rattle.std.proofs.lemmas.List.{length-map}
use Rattle.link_net.specs.Neighbours.{row}
use Rattle.link_net.proofs.LentRows.{both_columns}
use Rattle.link_net.proofs.lent.NetRows.row_of.Goals as goal

pub returns-clause-paired : goal.returns-clause-paired
returns-clause-paired c =
    let slots = row c.args.self.now c.args.node in
    rw (c.neighbours_of.ensures.exact, c.weights_of.ensures.exact) (length-map slots (λ a. a.1) ∙ sym (length-map slots (λ a. a.0)))

pub returns-clause-slots : goal.returns-clause-slots
returns-clause-slots c = rw (c.neighbours_of.ensures.exact, c.weights_of.ensures.exact) (both_columns (row c.args.self.now c.args.node))
