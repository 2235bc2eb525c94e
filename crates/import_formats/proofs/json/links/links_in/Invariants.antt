use Rattle.std.proofs.Common.{◌≡◌, drop, map}
use Rattle.serde_json.specs.View.{view}
use Rattle.import_formats.specs.json.Graphs.{links_from}
use Rattle.import_formats.proofs.json.Steps.{with_front}
use Rattle.import_formats.proofs.json.links.links_in.Given as goal

abbrev pub invariant-loop-place : goal.invariant-loop-place
invariant-loop-place l =
    with_front l.placed.items (links_from l.names l.factor l.list l.place (map view (drop l.place l.links))) ≡ links_from l.fn.names l.fn.factor l.fn.list 0 (map view l.links)
