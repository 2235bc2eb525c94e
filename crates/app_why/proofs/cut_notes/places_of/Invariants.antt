use Rattle.std.proofs.Common.{◌≡◌, ◌++◌, drop}
use Rattle.rule_cuts.specs.Cuttable.{noted_places}
use Rattle.app_why.proofs.cut_notes.places_of.Given as goal

abbrev pub invariant-loop-cut : goal.invariant-loop-cut
invariant-loop-cut l = l.places.items ++ noted_places (drop l.cut-index l.noted) ≡ noted_places l.noted
