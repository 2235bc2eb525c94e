use Rattle.std.proofs.Common.{◌≡◌, ◌∙◌, zip, append_assoc, append-nil, sym, arith}
use Rattle.std.proofs.lemmas.Slice.Zip.{length-zip}
use Rattle.std.proofs.lemmas.List.{drop_all}
use Rattle.net_text.proofs.RowSteps.{taken, passed}
use Rattle.net_text.proofs.row_file.push_links.Goals as goal
use Rattle.net_text.proofs.row_file.push_links.Goals.{then-neighbour-node+in_ok-push, else-neighbour-node}

pub loop-slot-preserved : goal.loop-slot-preserved
loop-slot-preserved c =
    let ns = c.args.neighbours.now in
    let ws = c.args.weights.now in
    elim c.if-neighbour-node.branch [
      | then-neighbour-node+in_ok-push w ↦
          rw (w.links-is, w.in_ok-push.ensures.items, append_assoc) (rw (taken c.args.node c.loop-slot.slot ns ws c.requires.paired c.loop-slot-test.true w.if-neighbour-node.true) at c.loop-slot.invariant)
      | else-neighbour-node w ↦
          rw (w.links-is) (rw (passed c.args.node c.loop-slot.slot ns ws c.requires.paired c.loop-slot-test.true w.if-neighbour-node.false) at c.loop-slot.invariant)
    ]

pub returns : goal.returns
returns c =
    let ns = c.args.neighbours.now in
    let ws = c.args.weights.now in
    let none = drop_all c.loop-slot.slot (zip ns ws) (omega (arith, length-zip ns ws, c.loop-slot-test.false)) in
    record { pushed = sym (append-nil c.loop-slot.links.items) ∙ rw none at c.loop-slot.invariant }
