use Rattle.net_random.proofs.choice.chosen_nodes.Goals as goal

pub fill-requires-clause-different : goal.fill-requires-clause-different
fill-requires-clause-different c = c.in_ok-chosen.ensures.different c.args.node c.requires.within
