use Rattle.std.proofs.Common.{◌≡◌, ◌∙◌, ◌+◌, ap}
use Rattle.rounds_plan.specs.Lockstep.{lockstep}
use Rattle.unison_world.specs.Counting.{Counts}
use Rattle.unison_world.specs.View.{WorldView}
use Rattle.unison_world.proofs.Taken.{drawn-set}
use Rattle.unison_world.proofs.Writes.{counts-moved, picture-moved}
use Rattle.unison_world.proofs.Standing.{node_moved, done-next}
use Rattle.unison_world.proofs.results.put.Goals as goal

pub returns-in-Moved-clause-counts : goal.returns-in-Moved-clause-counts
returns-in-Moved-clause-counts c =
    let plan = c.args.plan.now in
    let items = c.args.nodes.now.items in
    let w = c.args.done.now.work in
    let node = c.index_mut.result.now in
    let e = c.in-Moved.ensures.answer in
    let n = c.node-node.ensures.node in
    let m = node_moved plan c.args.stop items w.node node c.requires.drawn e.0 (rw n at c.index_mut.ensures.value) in
    let show : Counts → WorldView = λ cs. record { plan = plan; stop = c.args.stop; counts = cs } in
    rw c.in-Moved.is (rw e.0 (rw c.advance.ensures.moved (rw n (ap show (counts-moved c.program.result.now items w.node node c.state-state.result m.1)))))

pub returns-in-Moved-clause-drawn : goal.returns-in-Moved-clause-drawn
returns-in-Moved-clause-drawn c =
    let plan = c.args.plan.now in
    let items = c.args.nodes.now.items in
    let w = c.args.done.now.work in
    let node = c.index_mut.result.now in
    let e = c.in-Moved.ensures.answer in
    let n = c.node-node.ensures.node in
    let m = node_moved plan c.args.stop items w.node node c.requires.drawn e.0 (rw n at c.index_mut.ensures.value) in
    let next : c.state-state.result ≡ lockstep plan (node.moves + 1) w.node =
    c.state-state.ensures.state ∙ done-next plan c.args.stop items c.args.done.now node m.1 m.2 m.3 c.state-state.ensures.exact e.1 in
    rw c.advance.ensures.moved (rw (n, c.program.ensures.program) (drawn-set plan items w.node _ c.requires.drawn (picture-moved plan w.node node c.state-state.result m.2 next)))
