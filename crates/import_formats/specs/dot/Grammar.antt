-- What may stand where in a graph. A place says what stands before; each row says which tokens may stand there, and to
-- which place they lead. Names that are read are mentions of nodes.
use Rattle.std.specs.Prelude.{ℕ, ◌+◌, ◌-◌, ◌==◌, Bool, true, false, ◌&&◌, List, [], ◌∷◌, nat_lt, codes, Result, Ok, Err, if◌then◌else◌}
use Rattle.std.specs.Str.{bytes_eq}
use Rattle.import_formats.specs.declared.dot.token_kind.TokenKind.{TokenKind}
use Rattle.import_formats.specs.declared.dot.token_kind.TokenKind.TheVariants.{Name, Quoted, Html, Strict, Graph, Digraph, Node, Edge, Subgraph, BraceOpen, BraceClose, BracketOpen, BracketClose, Semicolon, Comma, Assign, Colon, Dashes, Arrow, End}
use Rattle.import_formats.specs.declared.dot.fault.DotLineFault.{DotLineFault}
use Rattle.import_formats.specs.declared.dot.fault.DotLineFault.TheVariants.{Syntax, UnclosedGraph, Directed, WrongEdge, SubgraphEnd, TooDeep, NoValue, DefaultWeight}
use Rattle.import_formats.specs.declared.dot.state.Place.{Place}
use Rattle.import_formats.specs.declared.dot.state.Place.TheVariants as stands
use Rattle.import_formats.specs.declared.dot.state.Owner.{Owner}
use Rattle.import_formats.specs.declared.dot.state.Owner.TheVariants as whose
use Rattle.import_formats.specs.declared.dot.state.Act.{Act}
use Rattle.import_formats.specs.declared.dot.state.Act.TheVariants as does
use Rattle.import_formats.specs.declared.dot.state.State.{State}
use Rattle.import_formats.specs.dot.Lexing.{DotToken}

-- the next state, and what the token does; or a fault
abbrev pub Turn : Type 0
Turn = Result (State × Act) DotLineFault

-- to a place
abbrev pub to : State → Place → Turn
to s place = Ok (record s { place = place }, does.Pass)

-- a token that may not stand there
abbrev pub refused : TokenKind → Turn
refused End = Err UnclosedGraph
refused kind = Err (Syntax kind)

-- the next token is =
abbrev pub is_assign : Result TokenKind DotLineFault → Bool
is_assign (Ok Assign) = true
is_assign _ = false

abbrev pub assigns : List DotToken → Bool
assigns [] = false
assigns (t ∷ ahead) = is_assign t.kind

-- subgraphs are nested so deep at most
abbrev pub most_depth : ℕ
most_depth = 64

-- a brace opens a subgraph
abbrev pub opened : State → Turn
opened s = if nat_lt s.depth most_depth then Ok (record s { place = stands.Statement; depth = s.depth + 1 }, does.Pass) else Err TooDeep

-- a brace closes a subgraph, or the graph
abbrev pub closed : State → Turn
closed s = if s.depth == 0 then to s stands.Over else Ok (record s { place = stands.Closed; depth = s.depth - 1 }, does.Pass)

-- the sign of an edge in a directed graph, or in one that is not
abbrev pub joined : State → Bool → Turn
joined s directed =
    if directed then (if s.directed then to s stands.EdgeEnd else Err WrongEdge)
    else (if s.directed then Err WrongEdge else to s stands.EdgeEnd)

-- a name at the beginning of a statement: of a node, or of a value where = stands after it
abbrev pub named : State → List DotToken → Turn
named s ahead = if assigns ahead then to s stands.Key else Ok (record s { place = stands.Node; owner = whose.Node }, does.Begin)

-- brackets that say how what stands after them looks
abbrev pub defaults : State → Owner → Turn
defaults s owner = Ok (record s { place = stands.Brackets; owner = owner }, does.Pass)

-- a graph of this kind
abbrev pub begun : State → Bool → Turn
begun s directed = Ok (record s { place = stands.Title; directed = directed }, does.Pass)

-- a name or a value, whatever it is
abbrev pub at_any : State → Place → TokenKind → Turn
at_any s place Name = to s place
at_any s place Quoted = to s place
at_any s place Html = to s place
at_any s place kind = refused kind

-- ---- the graph's head

abbrev pub at_start : Bool → State → TokenKind → Turn
at_start undirected s Strict = to s stands.Strict
at_start undirected s Graph = begun s false
at_start undirected s Digraph = if undirected then begun s true else Err Directed
at_start undirected s kind = refused kind

abbrev pub at_strict : Bool → State → TokenKind → Turn
at_strict undirected s Strict = refused Strict
at_strict undirected s kind = at_start undirected s kind

-- the name of the graph, or its opening brace
abbrev pub at_title : State → TokenKind → Turn
at_title s BraceOpen = to s stands.Statement
at_title s kind = at_any s stands.Titled kind

abbrev pub at_titled : State → TokenKind → Turn
at_titled s BraceOpen = to s stands.Statement
at_titled s kind = refused kind

-- ---- statements

-- a statement, or a closing brace
abbrev pub at_statement : State → List DotToken → TokenKind → Turn
at_statement s ahead Name = named s ahead
at_statement s ahead Quoted = named s ahead
at_statement s ahead Html = named s ahead
at_statement s ahead Graph = defaults s whose.Other
at_statement s ahead Node = defaults s whose.Other
at_statement s ahead Edge = defaults s whose.EdgeDefault
at_statement s ahead Subgraph = to s stands.Subgraph
at_statement s ahead BraceOpen = opened s
at_statement s ahead BraceClose = closed s
at_statement s ahead kind = refused kind

-- after a statement
abbrev pub at_done : State → List DotToken → TokenKind → Turn
at_done s ahead Semicolon = to s stands.Statement
at_done s ahead kind = at_statement s ahead kind

-- after a subgraph
abbrev pub at_closed : State → List DotToken → TokenKind → Turn
at_closed s ahead Dashes = Err SubgraphEnd
at_closed s ahead Arrow = Err SubgraphEnd
at_closed s ahead kind = at_done s ahead kind

-- after `subgraph`: its name, or its opening brace
abbrev pub at_subgraph : State → TokenKind → Turn
at_subgraph s BraceOpen = opened s
at_subgraph s kind = at_any s stands.SubgraphTitled kind

abbrev pub at_subgraph_titled : State → TokenKind → Turn
at_subgraph_titled s BraceOpen = opened s
at_subgraph_titled s kind = refused kind

-- after a node, with all of its ports
abbrev pub at_sided : State → List DotToken → TokenKind → Turn
at_sided s ahead Dashes = joined s false
at_sided s ahead Arrow = joined s true
at_sided s ahead BracketOpen = to s stands.List
at_sided s ahead kind = at_done s ahead kind

-- after a node's first port
abbrev pub at_ported : State → List DotToken → TokenKind → Turn
at_ported s ahead Colon = to s stands.Side
at_ported s ahead kind = at_sided s ahead kind

-- after a node's name
abbrev pub at_node : State → List DotToken → TokenKind → Turn
at_node s ahead Colon = to s stands.Port
at_node s ahead kind = at_sided s ahead kind

-- after an edge's sign: a node
abbrev pub at_edge_end : State → TokenKind → Turn
at_edge_end s Name = Ok (record s { place = stands.Node; owner = whose.Edge }, does.More)
at_edge_end s Quoted = Ok (record s { place = stands.Node; owner = whose.Edge }, does.More)
at_edge_end s Html = Ok (record s { place = stands.Node; owner = whose.Edge }, does.More)
at_edge_end s Subgraph = Err SubgraphEnd
at_edge_end s BraceOpen = Err SubgraphEnd
at_edge_end s kind = refused kind

-- after a name at the beginning of a statement, where = stands
abbrev pub at_key : State → TokenKind → Turn
at_key s Assign = to s stands.Setting
at_key s kind = refused kind

-- ---- attributes

abbrev pub at_brackets : State → TokenKind → Turn
at_brackets s BracketOpen = to s stands.List
at_brackets s kind = refused kind

-- the attributes are those of all edges after them
abbrev pub is_default : Owner → Bool
is_default whose.EdgeDefault = true
is_default owner = false

-- the attributes are those of an edge
abbrev pub is_edge : Owner → Bool
is_edge whose.Edge = true
is_edge owner = false

-- an attribute of this name
abbrev pub keyed : State → Bool → Turn
keyed s weighs =
    if weighs && is_default s.owner then Err DefaultWeight
    else Ok (record s { place = stands.ListKey; weighs = weighs }, does.Pass)

-- a text says weight
abbrev pub is_weight : List ℕ → Bool
is_weight text = bytes_eq text (codes "weight")

-- in brackets
abbrev pub at_list : State → List ℕ → TokenKind → Turn
at_list s text Name = keyed s (is_weight text)
at_list s text Quoted = keyed s (is_weight text)
at_list s text Html = keyed s false
at_list s text BracketClose = to s stands.Listed
at_list s text kind = refused kind

-- after an attribute's name
abbrev pub at_list_key : State → TokenKind → Turn
at_list_key s Assign = to s stands.Value
at_list_key s End = Err UnclosedGraph
at_list_key s kind = Err NoValue

-- an attribute's value is given
abbrev pub valued : State → Turn
valued s = Ok (record s { place = stands.Valued }, if s.weighs && is_edge s.owner then does.Weigh else does.Pass)

abbrev pub at_value : State → TokenKind → Turn
at_value s Name = valued s
at_value s Quoted = valued s
at_value s Html = valued s
at_value s kind = refused kind

-- a semicolon or a comma
abbrev pub is_separator : TokenKind → Bool
is_separator Semicolon = true
is_separator Comma = true
is_separator kind = false

-- after an attribute's value
abbrev pub at_valued : State → List ℕ → TokenKind → Turn
at_valued s text kind = if is_separator kind then to s stands.List else at_list s text kind

-- after the closing bracket
abbrev pub at_listed : State → List DotToken → TokenKind → Turn
at_listed s ahead BracketOpen = to s stands.List
at_listed s ahead kind = at_done s ahead kind

-- ---- after the graph

abbrev pub at_over : State → TokenKind → Turn
at_over s End = to s stands.Finish
at_over s kind = refused kind

-- one token, of this kind and text, with those after it
abbrev pub turn_at : Place → Bool → State → TokenKind → List ℕ → List DotToken → Turn
turn_at stands.Start undirected s kind text ahead = at_start undirected s kind
turn_at stands.Strict undirected s kind text ahead = at_strict undirected s kind
turn_at stands.Title undirected s kind text ahead = at_title s kind
turn_at stands.Titled undirected s kind text ahead = at_titled s kind
turn_at stands.Statement undirected s kind text ahead = at_statement s ahead kind
turn_at stands.Done undirected s kind text ahead = at_done s ahead kind
turn_at stands.Closed undirected s kind text ahead = at_closed s ahead kind
turn_at stands.Subgraph undirected s kind text ahead = at_subgraph s kind
turn_at stands.SubgraphTitled undirected s kind text ahead = at_subgraph_titled s kind
turn_at stands.Node undirected s kind text ahead = at_node s ahead kind
turn_at stands.Port undirected s kind text ahead = at_any s stands.Ported kind
turn_at stands.Ported undirected s kind text ahead = at_ported s ahead kind
turn_at stands.Side undirected s kind text ahead = at_any s stands.Sided kind
turn_at stands.Sided undirected s kind text ahead = at_sided s ahead kind
turn_at stands.EdgeEnd undirected s kind text ahead = at_edge_end s kind
turn_at stands.Key undirected s kind text ahead = at_key s kind
turn_at stands.Setting undirected s kind text ahead = at_any s stands.Done kind
turn_at stands.Brackets undirected s kind text ahead = at_brackets s kind
turn_at stands.List undirected s kind text ahead = at_list s text kind
turn_at stands.ListKey undirected s kind text ahead = at_list_key s kind
turn_at stands.Value undirected s kind text ahead = at_value s kind
turn_at stands.Valued undirected s kind text ahead = at_valued s text kind
turn_at stands.Listed undirected s kind text ahead = at_listed s ahead kind
turn_at stands.Over undirected s kind text ahead = at_over s kind
turn_at stands.Finish undirected s kind text ahead = refused kind
