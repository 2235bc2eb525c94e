use Rattle.std.proofs.Common.{◌≡◌, ◌++◌, drop}
use Rattle.std.specs.Prelude.{map, string_bytes}
use Rattle.model_text.specs.View.{name_of}
use Rattle.model_rules.specs.Models.{bare}
use Rattle.model_rules.proofs.model.add_states.Given as goal

abbrev pub invariant-loop-member : goal.invariant-loop-member
invariant-loop-member l = map string_bytes l.names.items ++ bare (map name_of (drop l.member-index l.members)) ≡ map string_bytes l.fn.names.items ++ bare (map name_of l.members)
