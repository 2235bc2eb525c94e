use Rattle.std.proofs.Common.{◌≡◌, ◌≤◌, ◌+◌, ◌-◌, ◌^◌, min, false, length, take}
use Rattle.std.specs.Io.KnownBytes.{Appends}
use Rattle.report_text.proofs.tally.write_text.Given as goal

abbrev pub invariant-loop-written : goal.invariant-loop-written
invariant-loop-written g l = record {
  unmarked : l.out.failed ≡ false;
  within : l.written ≤ length l.text;
  rising : min l.initial.out.calls (2 ^ 64 - 1) ≤ l.out.calls;
  few : l.out.calls ≤ l.initial.out.calls + l.written;
  went_out : Appends (g.W.Write.contents l.initial.out.inner) (g.W.Write.contents l.out.inner) (take l.written l.text);
}

abbrev pub decreases-loop-written : goal.decreases-loop-written
decreases-loop-written g l = length l.text - l.written
