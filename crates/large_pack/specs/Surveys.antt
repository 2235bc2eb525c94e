-- Internal: what a look at each edge in turn tells. No public clause cites it.
use Rattle.std.specs.Prelude.{ℕ, ◌+◌, max, List, Result, Ok}
use Rattle.std.specs.Option.{unwrap_or, option_or}
use Rattle.large_pack.specs.declared.edge_line.EdgeLine.{EdgeLine}
use Rattle.large_pack.specs.declared.options.PackOptions.{PackOptions}
use Rattle.large_pack.specs.declared.survey.Survey.{Survey}
use Rattle.large_pack.specs.declared.fault.PackFault.{PackFault}
use Rattle.large_pack.specs.Lines.{and_then}
use Rattle.large_pack.specs.Sound.{outside_fault, loop_fault, first_fault, node_fault, reach, unless}

-- with one edge more
abbrev pub with_edge : PackOptions → Survey → EdgeLine → Survey
with_edge options s e = record {
  reach = max (max s.reach (e.first + 1)) (e.second + 1);
  outside = option_or s.outside (outside_fault options.nodes e);
  self_loop = option_or s.self_loop (loop_fault options.self_loops e);
}

-- what edges tell together
abbrev pub survey_of : PackOptions → List EdgeLine → Survey
survey_of options edges = record {
  reach = reach edges;
  outside = first_fault (outside_fault options.nodes) edges;
  self_loop = first_fault (loop_fault options.self_loops) edges;
}

abbrev pub survey_in : PackOptions → Result (List EdgeLine) PackFault → Result Survey PackFault
survey_in options read = and_then read (λ edges. Ok (survey_of options edges))

-- how many nodes there are, or the first fault
abbrev pub count_in : PackOptions → Survey → Result ℕ PackFault
count_in options s =
    let n = unwrap_or options.nodes s.reach in
    unless (node_fault n) (unless s.outside (unless s.self_loop (Ok n)))
