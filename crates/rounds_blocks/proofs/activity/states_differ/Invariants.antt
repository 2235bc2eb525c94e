use Rattle.std.proofs.Common.{◌≡◌, ◌<◌, ℕ, All, slice_index, slice_index_or}
use Rattle.std.specs.Global.{Vec}
use Rattle.rounds_blocks.proofs.activity.states_differ.Given as goal

-- the nodes have the same words in the first columns
abbrev pub invariant-loop-k : goal.invariant-loop-k
invariant-loop-k l = (j : ℕ) (d e : Vec ℕ) → j < l.k → All (λ u. slice_index (slice_index_or l.left j d).items u ≡ slice_index (slice_index_or l.right j e).items u) l.nodes
