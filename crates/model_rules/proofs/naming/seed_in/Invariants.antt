use Rattle.std.proofs.Common.{◌≡◌, drop}
use Rattle.std.specs.Prelude.{map}
use Rattle.model_text.specs.View.{name_of}
use Rattle.model_rules.specs.Naming.{seed_in}
use Rattle.model_rules.proofs.naming.seed_in.Given as goal

abbrev pub invariant-loop-name : goal.invariant-loop-name
invariant-loop-name l = seed_in (map name_of (drop l.name-index l.names)) ≡ seed_in (map name_of l.names)
