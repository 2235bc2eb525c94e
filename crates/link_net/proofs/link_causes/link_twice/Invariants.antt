use Rattle.link_net.proofs.Repeats.{Seen}
use Rattle.link_net.proofs.link_causes.link_twice.Given as goal

abbrev pub invariant-loop-number : goal.invariant-loop-number
invariant-loop-number l = Seen l.links l.number l.seen
