use Rattle.std.proofs.Common.{◌≡◌, slice_index_or, None}
use Rattle.net_initial.specs.Opened.{shown_pairs}
use Rattle.net_initial.proofs.table.shown_pairs.Given as goal

abbrev pub invariant-loop-node : goal.invariant-loop-node
invariant-loop-node l = l.pairs.items ≡ shown_pairs l.node (λ u. slice_index_or l.table u None)
