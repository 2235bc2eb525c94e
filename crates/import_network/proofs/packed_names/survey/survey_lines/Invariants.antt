use Rattle.std.proofs.Common.{◌≡◌, ◌+◌, ◌<◌, ◌^◌, length, Ok}
use Rattle.import_lines.specs.Texts.{told_from}
use Rattle.import_formats.specs.edges.Edges.{and_then, edges_in}
use Rattle.import_network.specs.PackNaming.{reading_of}
use Rattle.import_network.specs.NameSurveys.{survey_of}
use Rattle.import_network.proofs.Surveying.{survey_after}
use Rattle.import_network.proofs.packed_names.survey.survey_lines.Given as goal

abbrev pub invariant-loop-number : goal.invariant-loop-number
invariant-loop-number l = record {
  room : l.lines.passed + length l.lines.bytes.now < 2 ^ 64;
  told : survey_after l.options.self_loops l.survey (edges_in (reading_of l.options) (told_from (l.lines.passed + 1) l.lines.bytes.now)) ≡ and_then (edges_in (reading_of l.options) (told_from (l.fn.from.passed + 1) l.fn.from.bytes.now)) (λ es. Ok (survey_of l.options.self_loops es));
}

abbrev pub decreases-loop-number : goal.decreases-loop-number
decreases-loop-number l = length (told_from (l.lines.passed + 1) l.lines.bytes.now)
