-- Internal: what a look at each edge in turn tells. No public clause cites it.
use Rattle.std.specs.Prelude.{Bool, true, false, List, [], ◌∷◌}
use Rattle.import_lines.specs.Named.{NamedEdge}
use Rattle.large_pack.specs.declared.options.SelfLoops.{SelfLoops}
use Rattle.import_network.specs.declared.packed_names.survey.Survey.{Survey}
use Rattle.import_network.specs.PackNaming.{first_loop}

-- there is no edge
abbrev pub is_none : List NamedEdge → Bool
is_none [] = true
is_none (e ∷ es) = false

-- what edges tell together
abbrev pub survey_of : SelfLoops → List NamedEdge → Survey
survey_of self_loops es = record { is_empty = is_none es; self_loop = first_loop self_loops es }
