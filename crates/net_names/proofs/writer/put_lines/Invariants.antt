use Rattle.std.proofs.Common.{◌≡◌, ◌++◌, map, drop, string_bytes}
use Rattle.net_names.specs.NamesFiles.{text_of}
use Rattle.net_names.proofs.writer.put_lines.Given as goal

abbrev pub invariant-loop-text : goal.invariant-loop-text
invariant-loop-text l = string_bytes l.out ++ text_of (map string_bytes (drop l.text-index l.texts)) ≡ string_bytes l.fn.out ++ text_of (map string_bytes l.texts)
