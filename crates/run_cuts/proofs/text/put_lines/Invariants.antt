use Rattle.std.proofs.Common.{◌≡◌, ◌++◌, drop, string_bytes}
use Rattle.run_cuts.specs.Texts.{lines_text}
use Rattle.run_cuts.proofs.text.put_lines.Given as goal

abbrev pub invariant-loop-cut : goal.invariant-loop-cut
invariant-loop-cut l = string_bytes l.out ++ lines_text l.telling (drop l.cut-index l.cuts) ≡ string_bytes l.initial.out ++ lines_text l.telling l.cuts
