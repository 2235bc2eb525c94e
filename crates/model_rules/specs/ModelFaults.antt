-- What is wrong with a model: the first fault, found the way that the expander goes, for private proofs. By its place it is told in
-- ModelRefusals.
use Rattle.std.specs.Prelude.{List, [], Option}
use Rattle.std.specs.Option.{option_or}
use Rattle.model_text.specs.Tree.{ItemTree}
use Rattle.model_rules.specs.declared.fault.ExpandFault.{ExpandFault}
use Rattle.model_rules.specs.Models.{GivenTree}
use Rattle.model_rules.specs.Naming.{naming_fault}
use Rattle.model_rules.specs.Definitions.{names_defined, frame_in, settled, seed_first, defining_fault}
use Rattle.model_rules.specs.Faults.{items_fault}

-- The first fault of a model of which the caller sets these constants: one of its names, or else one of its constants, states and lets,
-- or else the first of its fields and next values in their order, where all constants, states and lets are known.
abbrev pub model_fault : List ItemTree → List GivenTree → Option ExpandFault
model_fault items values =
    option_or (naming_fault items values)
    (option_or (defining_fault items values (seed_first items values))
    (items_fault items (frame_in items (settled items values (seed_first items values)) []) (names_defined items) [] items))
