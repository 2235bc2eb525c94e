-- What functions return, as the definitions speak of it.
use Rattle.import_formats.specs.declared.json.reader.JsonGraph.{JsonGraph}
use Rattle.import_formats.specs.json.Graphs.{NodeLinks}

-- a graph
abbrev pub graph_view : JsonGraph → NodeLinks
graph_view g = record { names = g.names; links = g.links.items }
