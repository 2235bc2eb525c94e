use Rattle.std.proofs.Common.{◌≡◌, ◌<◌, ◌≤◌, ◌+◌, ℕ, slice_index_or}
use Rattle.std.specs.Fork.{ChangesAt}
use Rattle.rounds_blocks.proofs.line.in_turn.Given as goal

-- the first k places are called
abbrev pub invariant-loop-k : goal.invariant-loop-k
invariant-loop-k g l = record {
  others : (j : ℕ) (d : g.row.T.Denot) → l.k ≤ j → slice_index_or l.s j d ≡ slice_index_or l.initial.s j d;
  changes : (j : ℕ) (d : g.row.T.Denot) → j < l.k → ChangesAt g.F.Fn l.f (l.from + j) (slice_index_or l.initial.s j d) (slice_index_or l.s j d);
}
