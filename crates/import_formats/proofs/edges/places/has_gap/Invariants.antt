use Rattle.std.proofs.Common.{◌≡◌, ◌+◌, length}
use Rattle.std.specs.List.{slice_split}
use Rattle.std.specs.Option.{option_map_or}
use Rattle.import_formats.specs.edges.Places.{is_comma, has_gap}
use Rattle.import_formats.proofs.edges.PlaceCuts.{gap_left, places_left}
use Rattle.import_formats.proofs.edges.places.has_gap.Given as goal

abbrev pub invariant-loop-rest : goal.invariant-loop-rest
invariant-loop-rest l = gap_left l.is_behind_gap (places_left l.rest) ≡ has_gap (slice_split is_comma l.fn.line)

abbrev pub decreases-loop-rest : goal.decreases-loop-rest
decreases-loop-rest l = option_map_or (λ text. length text.now + 1) l.rest 0
