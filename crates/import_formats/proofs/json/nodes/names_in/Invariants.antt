use Rattle.std.proofs.Common.{◌≡◌, [], drop, map}
use Rattle.serde_json.specs.View.{view}
use Rattle.import_formats.specs.json.Graphs.{names_from}
use Rattle.import_formats.proofs.json.nodes.names_in.Given as goal

abbrev pub invariant-loop-place : goal.invariant-loop-place
invariant-loop-place l = names_from l.fn.most l.place l.names (map view (drop l.place l.nodes)) ≡ names_from l.fn.most 0 [] (map view l.nodes)
