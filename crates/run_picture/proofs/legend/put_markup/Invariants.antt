use Rattle.std.proofs.Common.{◌≡◌, ◌++◌, drop, length, string_bytes}
use Rattle.std.specs.List.{flat_map}
use Rattle.std.specs.Str.{chars}
use Rattle.run_picture.specs.Sheets.{markup_char}
use Rattle.run_picture.proofs.legend.put_markup.Given as goal

abbrev pub invariant-loop-character : goal.invariant-loop-character
invariant-loop-character l =
    string_bytes l.out ++ flat_map markup_char (drop (length l.yielded) (chars l.name)) ≡ string_bytes l.initial.out ++ flat_map markup_char (chars l.name)
