use Rattle.run_steps.proofs.explain.words.put_write.Goals as goal

pub returns-in-NoNode : goal.returns-in-NoNode
returns-in-NoNode c = record { words = rw (c.in-NoNode.is, ← c.nodes-nodes.ensures.count) c.write-in-NoNode.ensures.bytes }
