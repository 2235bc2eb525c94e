use Rattle.std.proofs.Common.{arith, ◌∙◌, ◌+◌, ap, ⊎_elim}
use Rattle.std.proofs.lemmas.List.{length_push}
use Rattle.unison_world.proofs.Starts.{slice_get-push, counts-push}
use Rattle.unison_world.proofs.opening.opening_nodes.Goals as goal

pub loop-node-preserved : goal.loop-node-preserved
loop-node-preserved c =
    let i = c.loop-node.invariant in
    let items = c.loop-node.nodes.items in
    let node = c.in_ok-opening_node.field-0 in
    let fresh = c.in_ok-opening_node.ensures in
    let test = c.loop-node-test.true in
    let many = c.nodes-node-end.ensures.count in
    let pushed = c.in_ok-push.ensures.items in
    rw pushed (record {
      count = length_push items node ∙ ap (λ n. n + 1) i.count;
      each = λ u n h. ⊎_elim (λ e. i.each u n e) (λ e. rw (e.0, e.1) (rw i.count fresh.picture)) (slice_get-push items node n u h);
      counts = counts-push c.args.plan.now.network c.args.plan.now.start items c.loop-node.node node (omega arith) i.counts fresh.moves fresh.marks;
    })
