-- Nodes that stand in batches that follow one another, and no others.
use Rattle.std.specs.Prelude.{ℕ, ◌<◌, ◌≤◌, List, length, All, slice_index_or}
use Rattle.rounds_blocks.specs.declared.batch.Batch.{Batch}
use Rattle.rounds_blocks.specs.declared.spans.Span.{Span}
use Rattle.rounds_blocks.specs.Nears.{StandsIn}

-- a number from one on to the one before another
pub record IsInside (low high u : ℕ) : Type 0 where
  pub from : low ≤ u
  pub below : u < high

-- The batches from this one on to the one before the span's end have only nodes of its range, which is one of the network's, and each
-- node of the range stands in one of them.
pub record IsSpan (nodes : ℕ) (batches : List Batch) (first : ℕ) (span : Span) : Type 0 where
  pub there : span.behind ≤ length batches
  pub order : span.low ≤ span.high
  pub inside : span.high ≤ nodes
  pub only : (i : ℕ) (d : Batch) → first ≤ i → i < span.behind → All (IsInside span.low span.high) (slice_index_or batches i d).nodes
  pub home : (u : ℕ) → span.low ≤ u → u < span.high → ℕ
  pub between : (u : ℕ) (from : span.low ≤ u) (below : u < span.high) → IsInside first span.behind (home u from below)
  pub stands : (u : ℕ) (from : span.low ≤ u) (below : u < span.high) → StandsIn batches u (home u from below)

-- for each of the first batches the span that begins with it
abbrev pub HaveSpans : ℕ → List Batch → List Span → Type 0
HaveSpans nodes batches spans = (i : ℕ) (d : Span) → i < length spans → IsSpan nodes batches i (slice_index_or spans i d)
