use Rattle.std.proofs.Common.{◌≡◌, ◌++◌, drop, string_bytes}
use Rattle.run_picture.specs.Sheets.{own_legend}
use Rattle.run_picture.proofs.legend.put_own.Given as goal

abbrev pub invariant-loop-place : goal.invariant-loop-place
invariant-loop-place l =
    string_bytes l.out ++ own_legend l.key l.top l.place (drop l.place l.colours) ≡ string_bytes l.initial.out ++ own_legend l.key l.top 0 l.colours
