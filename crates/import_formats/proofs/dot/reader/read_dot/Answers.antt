use Rattle.std.proofs.Common.{sym, ap, ◌∙◌, Err}
use Rattle.std.specs.Option.{unwrap_or}
use Rattle.std.specs.Result.{result_err}
use Rattle.import_formats.specs.declared.dot.fault.DotFault.TheVariants.{Memory}
use Rattle.import_formats.specs.dot.Graphs.{events_from, start}
use Rattle.import_formats.specs.dot.Reading.{read_graph}
use Rattle.import_formats.specs.dot.Tokens.{tokens_of}
use Rattle.import_formats.specs.dot.View.{graph_view}
use Rattle.import_formats.proofs.dot.EndsNamed.{graph_named}
use Rattle.import_formats.proofs.dot.TextsSaid.{says, no_fault_said, fault_said, fault_given}
use Rattle.import_formats.proofs.dot.TreesFound.{tree_found, tree_faultless}
use Rattle.import_formats.proofs.dot.TreesRead.{tree_read}
use Rattle.import_formats.proofs.dot.reader.read_dot.Goals as goal

pub returns-in-Ok-clause-answer : goal.returns-in-Ok-clause-answer
returns-in-Ok-clause-answer c =
    (read_graph c.args.reading.now.undirected c.args.reading.now.factor c.args.text.now, says c.args.reading.now.undirected c.args.reading.now.factor c.args.text.now, c.in-Ok.ensures)

pub returns-in-Err-clause-answer : goal.returns-in-Err-clause-answer
returns-in-Err-clause-answer c =
    let said = read_graph c.args.reading.now.undirected c.args.reading.now.factor c.args.text.now in
    (said, says c.args.reading.now.undirected c.args.reading.now.factor c.args.text.now, fault_said said c.first_fault.result c.first_fault.ensures)

pub returns-in-Ok-clause-refused : goal.returns-in-Ok-clause-refused
returns-in-Ok-clause-refused c fault says = absurd (no_fault_said c.args.reading.now.undirected c.args.reading.now.factor c.args.text.now fault (graph_view c.in-Ok.graph) says c.in-Ok.ensures)

pub returns-in-Err-clause-refused : goal.returns-in-Err-clause-refused
returns-in-Err-clause-refused c fault says = ap Err (fault_given c.args.reading.now.undirected c.args.reading.now.factor c.args.text.now fault c.first_fault.result says c.first_fault.ensures)

pub returns-in-Ok-clause-ends : goal.returns-in-Ok-clause-ends
returns-in-Ok-clause-ends c = graph_named c.args.reading.now.factor (events_from c.args.reading.now.undirected c.args.reading.now.factor start (tokens_of c.args.text.now)) (graph_view c.in-Ok.graph) c.in-Ok.ensures

pub returns-in-Ok-clause-grammar : goal.returns-in-Ok-clause-grammar
returns-in-Ok-clause-grammar c tree is = sym (tree_read c.args.reading.now.undirected c.args.reading.now.factor c.args.text.now tree is) ∙ c.in-Ok.ensures

pub returns-in-Err-clause-grammar : goal.returns-in-Err-clause-grammar
returns-in-Err-clause-grammar c tree is other =
    absurd (other (c.first_fault.ensures ∙ ap (λ r. unwrap_or (result_err r) Memory) (tree_read c.args.reading.now.undirected c.args.reading.now.factor c.args.text.now tree is)))

pub returns-in-Ok-clause-tree : goal.returns-in-Ok-clause-tree
returns-in-Ok-clause-tree c = tree_found c.args.reading.now.undirected c.args.reading.now.factor c.args.text.now (graph_view c.in-Ok.graph) c.in-Ok.ensures

pub returns-in-Err-clause-memory : goal.returns-in-Err-clause-memory
returns-in-Err-clause-memory c is = tree_faultless c.args.reading.now.undirected c.args.reading.now.factor c.args.text.now (sym c.first_fault.ensures ∙ is)
