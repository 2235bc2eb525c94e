use Rattle.std.proofs.Common.{◌≡◌, ◌+◌, ◌≤◌, false, length}
use Rattle.std.specs.Io.KnownBytes.{Consumes}
use Rattle.unison_trace.proofs.replay.read_input.Given as goal

abbrev pub invariant-loop-turn : goal.invariant-loop-turn
invariant-loop-turn g l = record {
  unmarked : l.input.failed ≡ false;
  counted : l.input.calls ≡ l.initial.input.calls + l._turn;
  many : l._turn ≤ length l.bytes.items;
  room : length l.buffer ≡ 65536;
  read : Consumes (g.R.Read.remaining l.initial.input.inner) (g.R.Read.remaining l.input.inner) l.bytes.items;
}
