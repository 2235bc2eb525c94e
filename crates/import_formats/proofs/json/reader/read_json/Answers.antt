use Rattle.serde_json.specs.View.{view}
use Rattle.import_formats.specs.json.Graphs.{value_of}
use Rattle.import_formats.specs.json.View.{graph_view}
use Rattle.import_formats.proofs.json.Plain.{graph_told}
use Rattle.import_formats.proofs.json.reader.read_json.Goals as goal

pub returns : goal.returns
returns c = record {
  answer = graph_told graph_view c.args.most c.args.reading.now.undirected c.args.reading.now.factor (view c.in_ok-value.value) (value_of c.args.text.now) c.graph_in.result c.in_ok-value.ensures c.graph_in.ensures;
}
