use Rattle.std.proofs.Common.{◌≡◌, ◌<◌, ℕ, length, map, slice_index_or}
use Rattle.std.specs.Global.{Vec}
use Rattle.rounds_code.specs.Block.{byte_word}
use Rattle.rounds_blocks.proofs.narrow.narrow_all.Given as goal

-- bytes stand for the columns up to k
abbrev pub invariant-loop-k : goal.invariant-loop-k
invariant-loop-k l = record {
  long : length l.bytes ≡ length l.words;
  same : (j : ℕ) (d e : Vec ℕ) → j < l.k → map byte_word (slice_index_or l.bytes j d).items ≡ (slice_index_or l.words j e).items;
}
