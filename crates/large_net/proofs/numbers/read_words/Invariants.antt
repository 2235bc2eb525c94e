use Rattle.std.proofs.Common.{◌≡◌, map, take}
use Rattle.std.specs.Int.{from_le_bytes, w32}
use Rattle.large_net.proofs.numbers.read_words.Given as goal

-- the numbers so far are read
abbrev pub invariant-loop-piece : goal.invariant-loop-piece
invariant-loop-piece l = l.numbers.items ≡ map (from_le_bytes w32) (take l.piece-index l.pieces)
