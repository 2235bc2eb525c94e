use Rattle.std.proofs.Common.{◌≡◌, ◌++◌, drop}
use Rattle.std.specs.Prelude.{map, string_bytes}
use Rattle.model_text.specs.View.{name_of}
use Rattle.model_rules.specs.Models.{bare}
use Rattle.model_rules.proofs.known.spelled.Given as goal

abbrev pub invariant-loop-name : goal.invariant-loop-name
invariant-loop-name l = map string_bytes l.texts.items ++ bare (map name_of (drop l.name-index l.names)) ≡ bare (map name_of l.names)
