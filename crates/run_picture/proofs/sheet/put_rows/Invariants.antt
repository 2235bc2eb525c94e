use Rattle.std.proofs.Common.{◌≡◌, ◌++◌, drop, string_bytes}
use Rattle.run_picture.specs.Sheets.{rows_text}
use Rattle.run_picture.proofs.sheet.put_rows.Given as goal

abbrev pub invariant-loop-place : goal.invariant-loop-place
invariant-loop-place l =
    string_bytes l.out ++ rows_text l.key l.width l.place (drop l.place l.cells) ≡ string_bytes l.initial.out ++ rows_text l.key l.width 0 l.cells
