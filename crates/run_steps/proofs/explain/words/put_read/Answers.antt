use Rattle.std.proofs.Common.{length, ◌≡◌, ◌∙◌, ap}
use Rattle.run_steps.proofs.explain.words.put_read.Goals as goal

pub returns-in-NoNode : goal.returns-in-NoNode
returns-in-NoNode c =
    let count : c.nodes-nodes.result ≡ length c.args.world.now.plan.network = c.nodes-nodes.ensures.count ∙ ap length c.rows-rows.ensures.rows ∙ ap (λ p. length p.network) c.plan.ensures.plan in
    record { words = rw (c.in-NoNode.is, ← count) c.write-in-NoNode.ensures.bytes }
