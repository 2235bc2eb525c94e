use Rattle.run_steps.proofs.explain.sentences.put_no_node.Goals as goal

pub returns : goal.returns
returns c = record { words = rw (← c.nodes-nodes.ensures.count) c.write.ensures.bytes }
