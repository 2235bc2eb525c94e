-- What edges tell, read line by line.
use Rattle.std.proofs.Common.{◌&&◌, List, Result, Ok}
use Rattle.std.specs.Option.{option_or}
use Rattle.import_lines.specs.Named.{NamedEdge}
use Rattle.import_formats.specs.declared.edges.fault.EdgeFault.{EdgeFault}
use Rattle.import_formats.specs.edges.Edges.{and_then}
use Rattle.large_pack.specs.declared.options.SelfLoops.{SelfLoops}
use Rattle.import_network.specs.declared.packed_names.survey.Survey.{Survey}
use Rattle.import_network.specs.PackNaming.{first_loop}
use Rattle.import_network.specs.NameSurveys.{is_none}

-- what edges tell after others that told s
abbrev pub survey_after : SelfLoops → Survey → Result (List NamedEdge) EdgeFault → Result Survey EdgeFault
survey_after self_loops s read = and_then read (λ es. Ok (record { is_empty = s.is_empty && is_none es; self_loop = option_or s.self_loop (first_loop self_loops es) }))
