use Rattle.large_pack.proofs.Repeats.{repeat_is}
use Rattle.large_pack.proofs.merging.first_repeat.Goals as goal

pub returns-clause-repeat : goal.returns-clause-repeat
returns-clause-repeat c =
    rw (c.least_repeat.ensures, c.as_slice-2.ensures.value)
    (repeat_is c.args.edges.now.items c.requires.rising c.requires.tied c.sort_unstable.new.self.items c.sort_unstable.ensures.permutation c.sort_unstable.ensures.sorted)
