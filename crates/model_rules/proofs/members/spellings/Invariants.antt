use Rattle.std.proofs.Common.{◌≡◌, ◌++◌, drop, map, string_bytes}
use Rattle.model_text.specs.View.{name_of}
use Rattle.model_rules.specs.States.{spellings}
use Rattle.model_rules.proofs.members.spellings.Given as goal

abbrev pub invariant-loop-name : goal.invariant-loop-name
invariant-loop-name l = map string_bytes l.texts.items ++ spellings (map name_of (drop l.name-index l.names)) ≡ spellings (map name_of l.names)
