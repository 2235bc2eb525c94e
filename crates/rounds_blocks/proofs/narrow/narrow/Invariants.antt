use Rattle.std.proofs.Common.{ℕ, ◌≡◌, ◌<◌, length, slice_index}
use Rattle.rounds_code.specs.Block.{byte_word}
use Rattle.rounds_blocks.proofs.narrow.narrow.Given as goal

-- bytes stand for the words up to k, unless one is greater than they hold
abbrev pub invariant-loop-k : goal.invariant-loop-k
invariant-loop-k l = record {
  long : length l.bytes ≡ length l.words;
  same : l.most < 255 → (j : ℕ) → j < l.k → byte_word (slice_index l.bytes j) ≡ slice_index l.words j;
}
