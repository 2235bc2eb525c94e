use Rattle.std.proofs.Common.{map}
use Rattle.run_naive.specs.Keeping.{AreCompared, BeforeNode, past_of}
use Rattle.run_naive.proofs.comparing.compare_moves.Given as goal

abbrev pub invariant-loop-node : goal.invariant-loop-node
invariant-loop-node l = AreCompared l.plan (map past_of l.nodes) (BeforeNode l.index l.node) l.first
