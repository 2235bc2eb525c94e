use Rattle.std.proofs.Common.{◌≡◌, ◌++◌, drop, length, string_bytes}
use Rattle.std.specs.List.{flat_map}
use Rattle.std.specs.Str.{chars}
use Rattle.run_picture.specs.Drawn.{escaped_char}
use Rattle.run_picture.proofs.graph.put_escaped.Given as goal

abbrev pub invariant-loop-character : goal.invariant-loop-character
invariant-loop-character l =
    string_bytes l.out ++ flat_map escaped_char (drop (length l.yielded) (chars l.name)) ≡ string_bytes l.initial.out ++ flat_map escaped_char (chars l.name)
