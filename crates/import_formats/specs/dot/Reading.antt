-- The graph of a text as it is read: of the tokens that the lexer reads. Private: clauses of the reader's own functions
-- speak of it; what a text says is told by Graphs.
use Rattle.std.specs.Prelude.{ℕ, Bool, List, Option, Result}
use Rattle.import_formats.specs.declared.dot.fault.DotFault.{DotFault}
use Rattle.import_formats.specs.dot.Tokens.{tokens_of}
use Rattle.import_formats.specs.dot.Graphs.{DotGraph, graph_of}

abbrev pub read_graph : Bool → Option ℕ → List ℕ → Result DotGraph DotFault
read_graph undirected factor text = graph_of undirected factor (tokens_of text)
