use Rattle.std.proofs.Common.{◌≡◌, ◌++◌, map, length}
use Rattle.import_formats.specs.dot.Graphs.{chain}
use Rattle.import_formats.specs.dot.View.{mention_of}
use Rattle.import_formats.proofs.dot.builder.push_chain.Given as goal

abbrev pub invariant-loop-rest : goal.invariant-loop-rest
invariant-loop-rest l = l.edges.items ++ chain l.weight (map mention_of l.rest) ≡ l.fn.edges.items ++ chain l.weight (map mention_of l.ends)

abbrev pub decreases-loop-rest : goal.decreases-loop-rest
decreases-loop-rest l = length l.rest
