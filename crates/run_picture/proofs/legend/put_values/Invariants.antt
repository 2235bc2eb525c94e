use Rattle.std.proofs.Common.{◌≡◌, ◌++◌, drop, string_bytes}
use Rattle.run_picture.specs.Sheets.{values_legend}
use Rattle.run_picture.proofs.legend.put_values.Given as goal

abbrev pub invariant-loop-line : goal.invariant-loop-line
invariant-loop-line l =
    string_bytes l.out ++ values_legend l.key l.top l.line (drop l.line l.key.values) ≡ string_bytes l.initial.out ++ values_legend l.key l.top 0 l.key.values
