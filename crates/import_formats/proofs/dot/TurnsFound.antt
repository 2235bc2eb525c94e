-- What a place needs, from what the place needs to which a token leads.
use Rattle.std.proofs.Common.{◌≡◌, ℕ, ◌-◌, Bool, true, false, List, [], ◌∷◌, refl, sym, ap, ◌∙◌, Option, Result, Ok, Err, if◌then◌else◌, ◌≤◌, ◌&&◌, arith, Some, None, IsOk, inl, inr}
use Rattle.std.proofs.lemmas.Bool.{true≢false, false≢true}
use Rattle.import_lines.specs.declared.weight.Weight.{Weight}
use Rattle.import_lines.specs.declared.weight_fault.WeightFault.{WeightFault}
use Rattle.import_lines.specs.Weights.{weight_of}
use Rattle.import_formats.specs.declared.dot.token_kind.TokenKind.{TokenKind}
use Rattle.import_formats.specs.declared.dot.token_kind.TokenKind.TheVariants.{Name, Quoted, Html, Strict, Graph, Digraph, Node, Edge, Subgraph, BraceOpen, BraceClose, BracketOpen, BracketClose, Semicolon, Comma, Assign, Colon, Dashes, Arrow, End}
use Rattle.import_formats.specs.declared.dot.fault.DotLineFault.TheVariants.{WrongEdge, Directed}
use Rattle.import_formats.specs.declared.dot.state.Place.{Place}
use Rattle.import_formats.specs.declared.dot.state.Place.TheVariants as stands
use Rattle.import_formats.specs.declared.dot.state.Act.TheVariants as does
use Rattle.import_formats.specs.declared.dot.state.State.{State}
use Rattle.import_formats.specs.declared.dot.state.Owner.{Owner}
use Rattle.import_formats.specs.declared.dot.state.Owner.TheVariants as whose
use Rattle.import_formats.specs.declared.dot.fault.DotLineFault.TheVariants as fault
use Rattle.import_formats.specs.dot.Lexing.{DotToken}
use Rattle.import_formats.specs.dot.Grammar.{refused, assigns, at_start, at_strict, at_title, at_any, at_titled, at_statement, at_done, at_closed, at_subgraph, at_subgraph_titled, at_node, at_ported, at_sided, at_edge_end, at_key, at_brackets, at_list, at_list_key, at_value, at_valued, at_listed, at_over, turn_at, named, keyed, is_default, is_edge}
use Rattle.import_formats.specs.dot.Graphs.{said, BeginsEvent, JoinsEvent, weighed}
use Rattle.import_formats.specs.dot.Meaning.{IsNodeName, names_weight, weights_said, AreStatements, depth_of}
use Rattle.import_formats.specs.dot.Syntax.{Mark, IdMark, SignMark, mark_in, DotId, NoSeparator, SemicolonSeparator, CommaSeparator, Port, NoPort, OnePort, TwoPorts, NodeId, GraphDefault, NodeDefault, EdgeDefault, NoHead, Statements, port_marks, node_marks, edge_sign, statements_marks, graph_sign}
use Rattle.import_formats.proofs.dot.AttributesRead.{Takes, one_weight}
use Rattle.import_formats.proofs.dot.Needs.{After, AreLevels, AttributesAt, BlockAt, BodyAt, ChainAt, DoneAt, EdgeEndAt, IdAt, KindAt, Level, ListsAt, Needs, NodeAt, PortedAt, SignAt, StartAt, SubgraphAt, TitleAt, ValueAt, ValuedAt, WholeAt, after_if, outer_marks, owner_behind, side_marks}
use Rattle.import_formats.proofs.dot.PartsFound.{attributes_with, closed_found, default_with, lists_with, name_good, node_with, opened_found, setting_with, subgraph_with, takes_nil, word_with}

-- ---- what a place needs, from what the next place needs

pub named_found : (undirected : Bool) (factor : Option ℕ) (s : State) (a : List DotToken) (k : TokenKind) (text : List ℕ) (line : ℕ) (ms : List Mark) (id : DotId)
    → (IsOk (said factor does.Begin k text line) → IsNodeName id) → After undirected factor k text line ms (named s a) → BlockAt factor s.depth s.directed (IdMark id ∷ ms)
named_found undirected factor s a k text line ms id good h =
    elim (after_if undirected factor k text line ms (assigns a) (Ok (record s { place = stands.Key }, does.Pass)) (Ok (record s { place = stands.Node; owner = whose.Node }, does.Begin)) h) [
      | inl key ↦ setting_with factor s.depth s.directed id ms key.1.1
      | inr node ↦ node_with factor s.depth s.directed id ms (good node.1.0) node.1.1
    ]

abbrev pub id_with : List ℕ → Bool → ℕ → DotId
id_with text html line = record { text = text; is_html = html; line = line }

pub statement_found : (undirected : Bool) (factor : Option ℕ) (s : State) (a : List DotToken) (k : TokenKind) (text : List ℕ) (line : ℕ) (ms : List Mark) → After undirected factor k text line ms (at_statement s a k) → BlockAt factor s.depth s.directed (mark_in line (Ok k) text ∷ ms)
statement_found undirected factor s a Name text line ms h = named_found undirected factor s a Name text line ms (id_with text false line) (name_good text line (λ m. Ok (BeginsEvent m))) h
statement_found undirected factor s a Quoted text line ms h = named_found undirected factor s a Quoted text line ms (id_with text false line) (name_good text line (λ m. Ok (BeginsEvent m))) h
statement_found undirected factor s a Html text line ms h = named_found undirected factor s a Html text line ms (id_with text true line) (λ is. absurd (false≢true is)) h
statement_found undirected factor s a Graph text line ms h = default_with factor s.depth s.directed whose.Other GraphDefault ms (λ first lists takes. tt) h.1
statement_found undirected factor s a Node text line ms h = default_with factor s.depth s.directed whose.Other NodeDefault ms (λ first lists takes. tt) h.1
statement_found undirected factor s a Edge text line ms h = default_with factor s.depth s.directed whose.EdgeDefault EdgeDefault ms (λ first lists takes. takes) h.1
statement_found undirected factor s a Subgraph text line ms h = word_with factor s.depth s.directed h.1.name h.1.more ms h.1.spelled h.1.body
statement_found undirected factor s a BraceOpen text line ms h = subgraph_with factor s.depth s.directed NoHead ms (opened_found undirected factor s text line ms h)
statement_found undirected factor s a BraceClose text line ms h = closed_found undirected factor s text line ms h
statement_found undirected factor s a k text line ms h = absurd h

pub done_with : (factor : Option ℕ) (depth : ℕ) (directed : Bool) (ms : List Mark) → BlockAt factor depth directed ms → DoneAt factor depth directed ms
done_with factor depth directed ms block = record { semicolon = false; more = ms; block = block; spelled = refl }

pub done_found : (undirected : Bool) (factor : Option ℕ) (s : State) (a : List DotToken) (k : TokenKind) (text : List ℕ) (line : ℕ) (ms : List Mark) → After undirected factor k text line ms (at_done s a k) → DoneAt factor s.depth s.directed (mark_in line (Ok k) text ∷ ms)
done_found undirected factor s a Semicolon text line ms h = record { semicolon = true; more = ms; block = h.1; spelled = refl }
done_found undirected factor s a k text line ms h = done_with factor s.depth s.directed (mark_in line (Ok k) text ∷ ms) (statement_found undirected factor s a k text line ms h)

pub closed_place_found : (undirected : Bool) (factor : Option ℕ) (s : State) (a : List DotToken) (k : TokenKind) (text : List ℕ) (line : ℕ) (ms : List Mark) → After undirected factor k text line ms (at_closed s a k) → DoneAt factor s.depth s.directed (mark_in line (Ok k) text ∷ ms)
closed_place_found undirected factor s a Dashes text line ms h = absurd h
closed_place_found undirected factor s a Arrow text line ms h = absurd h
closed_place_found undirected factor s a k text line ms h = done_found undirected factor s a k text line ms h

pub no_lists : (factor : Option ℕ) (depth : ℕ) (directed : Bool) (owner : Owner) (ms : List Mark) → DoneAt factor depth directed ms → ListsAt factor depth directed owner ms
no_lists factor depth directed owner ms done = record { lists = []; more = ms; takes = takes_nil factor owner; done = done; spelled = refl }

pub no_chain : (factor : Option ℕ) (depth : ℕ) (directed : Bool) (owner : Owner) (ms : List Mark) → ListsAt factor depth directed owner ms → ChainAt factor depth directed owner ms
no_chain factor depth directed owner ms l = record { others = []; lists = l.lists; more = l.more; are = tt; takes = l.takes; done = l.done; spelled = l.spelled }

pub listed_found : (undirected : Bool) (factor : Option ℕ) (s : State) (a : List DotToken) (k : TokenKind) (text : List ℕ) (line : ℕ) (ms : List Mark) → After undirected factor k text line ms (at_listed s a k) → ListsAt factor s.depth s.directed s.owner (mark_in line (Ok k) text ∷ ms)
listed_found undirected factor s a BracketOpen text line ms h = lists_with factor s.depth s.directed s.owner ms h.1
listed_found undirected factor s a k text line ms h = no_lists factor s.depth s.directed s.owner (mark_in line (Ok k) text ∷ ms) (done_found undirected factor s a k text line ms h)

pub edge_owner : (factor : Option ℕ) (others : List NodeId) (words : List (List ℕ)) → Takes factor (owner_behind whose.Edge others) words → Takes factor whose.Edge words
edge_owner factor [] words takes = takes
edge_owner factor (n ∷ others) words takes = takes

-- a node after an edge's sign
pub joined_with : (factor : Option ℕ) (depth : ℕ) (directed : Bool) (owner : Owner) (sign : TokenKind) (ms : List Mark) → edge_sign directed ≡ sign → EdgeEndAt factor depth directed ms → ChainAt factor depth directed owner (SignMark sign ∷ ms)
joined_with factor depth directed owner sign ms is e =
    (let c = e.chain in
    record {
      others = e.node ∷ c.others;
      lists = c.lists;
      more = c.more;
      are = (e.name, c.are);
      takes = edge_owner factor c.others (weights_said c.lists) c.takes;
      done = c.done;
      spelled = ap (λ k. SignMark k ∷ ms) (sym is) ∙ ap (λ x. SignMark (edge_sign directed) ∷ x) (e.spelled ∙ ap (node_marks e.node) c.spelled);
    })

pub sign_of : (directed value : Bool) → directed ≡ value → edge_sign directed ≡ edge_sign value
sign_of directed value is = ap edge_sign is

pub sided_found : (undirected : Bool) (factor : Option ℕ) (s : State) (a : List DotToken) (k : TokenKind) (text : List ℕ) (line : ℕ) (ms : List Mark) → After undirected factor k text line ms (at_sided s a k) → ChainAt factor s.depth s.directed s.owner (mark_in line (Ok k) text ∷ ms)
sided_found undirected factor s a Dashes text line ms h =
    elim (after_if undirected factor Dashes text line ms s.directed (Err fault.WrongEdge) (Ok (record s { place = stands.EdgeEnd }, does.Pass)) h) [
      | inl wrong ↦ absurd wrong.1
      | inr right ↦ joined_with factor s.depth s.directed s.owner Dashes ms (sign_of s.directed false right.0) right.1.1
    ]
sided_found undirected factor s a Arrow text line ms h =
    elim (after_if undirected factor Arrow text line ms s.directed (Ok (record s { place = stands.EdgeEnd }, does.Pass)) (Err fault.WrongEdge) h) [
      | inl right ↦ joined_with factor s.depth s.directed s.owner Arrow ms (sign_of s.directed true right.0) right.1.1
      | inr wrong ↦ absurd wrong.1
    ]
sided_found undirected factor s a BracketOpen text line ms h = no_chain factor s.depth s.directed s.owner (SignMark BracketOpen ∷ ms) (lists_with factor s.depth s.directed s.owner ms h.1)
sided_found undirected factor s a k text line ms h =
    no_chain factor s.depth s.directed s.owner (mark_in line (Ok k) text ∷ ms) (no_lists factor s.depth s.directed s.owner (mark_in line (Ok k) text ∷ ms) (done_found undirected factor s a k text line ms h))

pub ported_found : (undirected : Bool) (factor : Option ℕ) (s : State) (a : List DotToken) (k : TokenKind) (text : List ℕ) (line : ℕ) (ms : List Mark) → After undirected factor k text line ms (at_ported s a k) → PortedAt factor s.depth s.directed s.owner (mark_in line (Ok k) text ∷ ms)
ported_found undirected factor s a Colon text line ms h = record { side = Some h.1.id; more = h.1.more; chain = h.1.rest; spelled = ap (λ x. SignMark Colon ∷ x) h.1.spelled }
ported_found undirected factor s a k text line ms h = record { side = None; more = mark_in line (Ok k) text ∷ ms; chain = sided_found undirected factor s a k text line ms h; spelled = refl }

-- a node's ports
pub port_with : DotId → Option DotId → Port
port_with id None = OnePort id
port_with id (Some side) = TwoPorts id side

pub port_spelled : (id : DotId) (side : Option DotId) (ms : List Mark) → port_marks (port_with id side) ms ≡ SignMark Colon ∷ IdMark id ∷ side_marks side ms
unfolding port_with
port_spelled id None ms = refl
port_spelled id (Some side) ms = refl

pub node_found : (undirected : Bool) (factor : Option ℕ) (s : State) (a : List DotToken) (k : TokenKind) (text : List ℕ) (line : ℕ) (ms : List Mark) → After undirected factor k text line ms (at_node s a k) → NodeAt factor s.depth s.directed s.owner (mark_in line (Ok k) text ∷ ms)
node_found undirected factor s a Colon text line ms h =
    (let p = h.1 in
    record {
      port = port_with p.id p.rest.side;
      more = p.rest.more;
      chain = p.rest.chain;
      spelled = ap (λ x. SignMark Colon ∷ x) (p.spelled ∙ ap (λ x. IdMark p.id ∷ x) p.rest.spelled) ∙ sym (port_spelled p.id p.rest.side p.rest.more);
    })
node_found undirected factor s a k text line ms h = record { port = NoPort; more = mark_in line (Ok k) text ∷ ms; chain = sided_found undirected factor s a k text line ms h; spelled = refl }

-- a token that may be any ID
pub any_found : (undirected : Bool) (factor : Option ℕ) (s : State) (p : Place) (Rest : List Mark → Type 0) (k : TokenKind) (text : List ℕ) (line : ℕ) (ms : List Mark)
    → (Needs undirected factor p (record s { place = p }) ms → Rest ms) → After undirected factor k text line ms (at_any s p k) → IdAt Rest (mark_in line (Ok k) text ∷ ms)
any_found undirected factor s p Rest Name text line ms rest h = record { id = id_with text false line; more = ms; rest = rest h.1; spelled = refl }
any_found undirected factor s p Rest Quoted text line ms rest h = record { id = id_with text false line; more = ms; rest = rest h.1; spelled = refl }
any_found undirected factor s p Rest Html text line ms rest h = record { id = id_with text true line; more = ms; rest = rest h.1; spelled = refl }
any_found undirected factor s p Rest k text line ms rest h = absurd h

pub end_with : (factor : Option ℕ) (depth : ℕ) (directed : Bool) (name : DotId) (ms : List Mark) → IsNodeName name → NodeAt factor depth directed whose.Edge ms → EdgeEndAt factor depth directed (IdMark name ∷ ms)
end_with factor depth directed name ms is n = record { node = record { name = name; port = n.port }; more = n.more; name = is; chain = n.chain; spelled = ap (λ x. IdMark name ∷ x) n.spelled }

pub edge_end_found : (undirected : Bool) (factor : Option ℕ) (s : State) (k : TokenKind) (text : List ℕ) (line : ℕ) (ms : List Mark) → After undirected factor k text line ms (at_edge_end s k) → EdgeEndAt factor s.depth s.directed (mark_in line (Ok k) text ∷ ms)
edge_end_found undirected factor s Name text line ms h = end_with factor s.depth s.directed (id_with text false line) ms (name_good text line (λ m. Ok (JoinsEvent m)) h.0) h.1
edge_end_found undirected factor s Quoted text line ms h = end_with factor s.depth s.directed (id_with text false line) ms (name_good text line (λ m. Ok (JoinsEvent m)) h.0) h.1
edge_end_found undirected factor s Html text line ms h = absurd (false≢true h.0)
edge_end_found undirected factor s k text line ms h = absurd h

pub key_found : (undirected : Bool) (factor : Option ℕ) (s : State) (k : TokenKind) (text : List ℕ) (line : ℕ) (ms : List Mark) → After undirected factor k text line ms (at_key s k) → SignAt Assign (IdAt (DoneAt factor s.depth s.directed)) (mark_in line (Ok k) text ∷ ms)
key_found undirected factor s Assign text line ms h = record { more = ms; rest = h.1; spelled = refl }
key_found undirected factor s k text line ms h = absurd h

pub brackets_found : (undirected : Bool) (factor : Option ℕ) (s : State) (k : TokenKind) (text : List ℕ) (line : ℕ) (ms : List Mark) → After undirected factor k text line ms (at_brackets s k)
    → SignAt BracketOpen (AttributesAt factor s.depth s.directed s.owner) (mark_in line (Ok k) text ∷ ms)
brackets_found undirected factor s BracketOpen text line ms h = record { more = ms; rest = h.1; spelled = refl }
brackets_found undirected factor s k text line ms h = absurd h

-- an attribute's name
pub keyed_found : (undirected : Bool) (factor : Option ℕ) (s : State) (k : TokenKind) (text : List ℕ) (line : ℕ) (ms : List Mark) (name : DotId) → After undirected factor k text line ms (keyed s (names_weight name))
    → AttributesAt factor s.depth s.directed s.owner (IdMark name ∷ ms)
keyed_found undirected factor s k text line ms name h =
    elim (after_if undirected factor k text line ms (names_weight name && is_default s.owner) (Err fault.DefaultWeight) (Ok (record s { place = stands.ListKey; weighs = names_weight name }, does.Pass)) h) [
      | inl wrong ↦ absurd wrong.1
      | inr right ↦ attributes_with factor s.depth s.directed s.owner name ms (right.1.1 right.0)
    ]

pub list_found : (undirected : Bool) (factor : Option ℕ) (s : State) (k : TokenKind) (text : List ℕ) (line : ℕ) (ms : List Mark) → After undirected factor k text line ms (at_list s text k) → AttributesAt factor s.depth s.directed s.owner (mark_in line (Ok k) text ∷ ms)
list_found undirected factor s Name text line ms h = keyed_found undirected factor s Name text line ms (id_with text false line) h
list_found undirected factor s Quoted text line ms h = keyed_found undirected factor s Quoted text line ms (id_with text false line) h
list_found undirected factor s Html text line ms h = keyed_found undirected factor s Html text line ms (id_with text true line) h
list_found undirected factor s BracketClose text line ms h = record { attributes = []; more = ms; takes = takes_nil factor s.owner; lists = h.1; spelled = refl }
list_found undirected factor s k text line ms h = absurd h

pub list_key_found : (undirected : Bool) (factor : Option ℕ) (s : State) (k : TokenKind) (text : List ℕ) (line : ℕ) (ms : List Mark) → After undirected factor k text line ms (at_list_key s k)
    → (s.weighs && is_default s.owner) ≡ false → SignAt Assign (ValueAt factor s.depth s.directed s.owner s.weighs) (mark_in line (Ok k) text ∷ ms)
list_key_found undirected factor s Assign text line ms h free = record { more = ms; rest = h.1 free; spelled = refl }
list_key_found undirected factor s k text line ms h free = absurd h

pub weighed_ok : (r : Result Weight WeightFault) → IsOk (weighed r) → IsOk r
weighed_ok (Ok w) is = refl
weighed_ok (Err bad) is = is

-- an attribute's value
pub value_takes : (factor : Option ℕ) (owner : Owner) (weighs : Bool) (k : TokenKind) (text : List ℕ) (line : ℕ) → (weighs && is_default owner) ≡ false → IsOk (said factor (if weighs && is_edge owner then does.Weigh else does.Pass) k text line) → Takes factor owner (one_weight weighs text)
value_takes factor whose.Edge true k text line free is = (weighed_ok (weight_of factor text) is, tt)
value_takes factor whose.Edge false k text line free is = tt
value_takes factor whose.EdgeDefault true k text line free is = absurd (true≢false free)
value_takes factor whose.EdgeDefault false k text line free is = refl
value_takes factor whose.Node weighs k text line free is = tt
value_takes factor whose.Other weighs k text line free is = tt

pub value_found : (undirected : Bool) (factor : Option ℕ) (s : State) (k : TokenKind) (text : List ℕ) (line : ℕ) (ms : List Mark) → After undirected factor k text line ms (at_value s k)
    → (s.weighs && is_default s.owner) ≡ false → ValueAt factor s.depth s.directed s.owner s.weighs (mark_in line (Ok k) text ∷ ms)
value_found undirected factor s Name text line ms h free = record { value = id_with text false line; more = ms; takes = value_takes factor s.owner s.weighs Name text line free h.0; valued = h.1; spelled = refl }
value_found undirected factor s Quoted text line ms h free = record { value = id_with text false line; more = ms; takes = value_takes factor s.owner s.weighs Quoted text line free h.0; valued = h.1; spelled = refl }
value_found undirected factor s Html text line ms h free = record { value = id_with text true line; more = ms; takes = value_takes factor s.owner s.weighs Html text line free h.0; valued = h.1; spelled = refl }
value_found undirected factor s k text line ms h free = absurd h

pub valued_found : (undirected : Bool) (factor : Option ℕ) (s : State) (k : TokenKind) (text : List ℕ) (line : ℕ) (ms : List Mark) → After undirected factor k text line ms (at_valued s text k) → ValuedAt factor s.depth s.directed s.owner (mark_in line (Ok k) text ∷ ms)
valued_found undirected factor s Semicolon text line ms h = record { separator = SemicolonSeparator; more = ms; attributes = h.1; spelled = refl }
valued_found undirected factor s Comma text line ms h = record { separator = CommaSeparator; more = ms; attributes = h.1; spelled = refl }
valued_found undirected factor s k text line ms h = record { separator = NoSeparator; more = mark_in line (Ok k) text ∷ ms; attributes = list_found undirected factor s k text line ms h; spelled = refl }

pub subgraph_titled_found : (undirected : Bool) (factor : Option ℕ) (s : State) (k : TokenKind) (text : List ℕ) (line : ℕ) (ms : List Mark) → After undirected factor k text line ms (at_subgraph_titled s k) → SignAt BraceOpen (BodyAt factor s.depth s.directed) (mark_in line (Ok k) text ∷ ms)
subgraph_titled_found undirected factor s BraceOpen text line ms h = record { more = ms; rest = opened_found undirected factor s text line ms h; spelled = refl }
subgraph_titled_found undirected factor s k text line ms h = absurd h

pub subgraph_named : (factor : Option ℕ) (depth : ℕ) (directed : Bool) (ms : List Mark) → IdAt (SignAt BraceOpen (BodyAt factor depth directed)) ms → SubgraphAt factor depth directed ms
subgraph_named factor depth directed ms i = record { name = Some i.id; more = i.rest.more; body = i.rest.rest; spelled = i.spelled ∙ ap (λ x. IdMark i.id ∷ x) i.rest.spelled }

pub subgraph_found : (undirected : Bool) (factor : Option ℕ) (s : State) (k : TokenKind) (text : List ℕ) (line : ℕ) (ms : List Mark) → After undirected factor k text line ms (at_subgraph s k) → SubgraphAt factor s.depth s.directed (mark_in line (Ok k) text ∷ ms)
subgraph_found undirected factor s BraceOpen text line ms h = record { name = None; more = ms; body = opened_found undirected factor s text line ms h; spelled = refl }
subgraph_found undirected factor s k text line ms h =
    subgraph_named factor s.depth s.directed (mark_in line (Ok k) text ∷ ms) (any_found undirected factor s stands.SubgraphTitled (SignAt BraceOpen (BodyAt factor s.depth s.directed)) k text line ms (λ x. x) h)

-- ---- the graph's head

pub whole_with : (factor : Option ℕ) (depth : ℕ) (directed : Bool) (ms : List Mark) (levels : List Level) (statements : Statements) → depth ≡ 0 → AreStatements factor statements → depth_of statements ≤ 64 - depth → AreLevels factor depth levels
    → ms ≡ statements_marks directed statements (SignMark BraceClose ∷ outer_marks directed levels) → WholeAt factor directed (SignMark BraceOpen ∷ ms)
whole_with factor depth directed ms [] statements outer are deep none spelled = record { statements = statements; are = are; deep = omega (arith, deep); spelled = ap (λ x. SignMark BraceOpen ∷ x) spelled }
whole_with factor depth directed ms (l ∷ levels) statements outer are deep some spelled = absurd (omega (arith, outer, some.1))

pub whole_found : (factor : Option ℕ) (depth : ℕ) (directed : Bool) (ms : List Mark) → depth ≡ 0 → BlockAt factor depth directed ms → WholeAt factor directed (SignMark BraceOpen ∷ ms)
whole_found factor depth directed ms outer b = whole_with factor depth directed ms b.levels b.statements outer b.are b.deep b.are_levels b.spelled

pub titled_found : (undirected : Bool) (factor : Option ℕ) (s : State) (k : TokenKind) (text : List ℕ) (line : ℕ) (ms : List Mark) → s.depth ≡ 0 → After undirected factor k text line ms (at_titled s k) → WholeAt factor s.directed (mark_in line (Ok k) text ∷ ms)
titled_found undirected factor s BraceOpen text line ms outer h = whole_found factor s.depth s.directed ms outer h.1
titled_found undirected factor s k text line ms outer h = absurd h

pub title_named : (factor : Option ℕ) (directed : Bool) (ms : List Mark) → IdAt (WholeAt factor directed) ms → TitleAt factor directed ms
title_named factor directed ms i = record { name = Some i.id; more = i.more; whole = i.rest; spelled = i.spelled }

pub title_found : (undirected : Bool) (factor : Option ℕ) (s : State) (k : TokenKind) (text : List ℕ) (line : ℕ) (ms : List Mark) → s.depth ≡ 0 → After undirected factor k text line ms (at_title s k) → TitleAt factor s.directed (mark_in line (Ok k) text ∷ ms)
title_found undirected factor s BraceOpen text line ms outer h = record { name = None; more = SignMark BraceOpen ∷ ms; whole = whole_found factor s.depth s.directed ms outer h.1; spelled = refl }
title_found undirected factor s k text line ms outer h = title_named factor s.directed (mark_in line (Ok k) text ∷ ms) (any_found undirected factor s stands.Titled (WholeAt factor s.directed) k text line ms (λ x. x outer) h)

pub kind_with : (undirected : Bool) (factor : Option ℕ) (directed : Bool) (ms : List Mark) → (directed ≡ true → undirected ≡ true) → TitleAt factor directed ms → KindAt undirected factor (SignMark (graph_sign directed) ∷ ms)
kind_with undirected factor directed ms taken title = record { directed = directed; more = ms; taken = taken; title = title; spelled = refl }

pub strict_found : (undirected : Bool) (factor : Option ℕ) (s : State) (k : TokenKind) (text : List ℕ) (line : ℕ) (ms : List Mark) → s.depth ≡ 0 → After undirected factor k text line ms (at_strict undirected s k) → KindAt undirected factor (mark_in line (Ok k) text ∷ ms)
strict_found undirected factor s Graph text line ms outer h = kind_with undirected factor false ms (λ is. absurd (false≢true is)) (h.1 outer)
strict_found undirected factor s Digraph text line ms outer h =
    elim (after_if undirected factor Digraph text line ms undirected (Ok (record s { place = stands.Title; directed = true }, does.Pass)) (Err fault.Directed) h) [
      | inl right ↦ kind_with undirected factor true ms (λ is. right.0) (right.1.1 outer)
      | inr wrong ↦ absurd wrong.1
    ]
strict_found undirected factor s k text line ms outer h = absurd h

pub not_strict : (undirected : Bool) (factor : Option ℕ) (ms : List Mark) → KindAt undirected factor ms → StartAt undirected factor ms
not_strict undirected factor ms k = record { strict = false; more = ms; kind = k; spelled = refl }

pub start_found : (undirected : Bool) (factor : Option ℕ) (s : State) (k : TokenKind) (text : List ℕ) (line : ℕ) (ms : List Mark) → s.depth ≡ 0 → After undirected factor k text line ms (at_start undirected s k) → StartAt undirected factor (mark_in line (Ok k) text ∷ ms)
start_found undirected factor s Strict text line ms outer h = record { strict = true; more = ms; kind = h.1 outer; spelled = refl }
start_found undirected factor s k text line ms outer h = not_strict undirected factor (mark_in line (Ok k) text ∷ ms) (strict_found undirected factor s k text line ms outer h)

pub over_found : (undirected : Bool) (factor : Option ℕ) (s : State) (k : TokenKind) (text : List ℕ) (line : ℕ) (ms : List Mark) → After undirected factor k text line ms (at_over s k) → mark_in line (Ok k) text ∷ ms ≡ SignMark End ∷ []
over_found undirected factor s End text line ms h = ap (λ x. SignMark End ∷ x) h.1
over_found undirected factor s k text line ms h = absurd h

pub finish_found : (undirected : Bool) (factor : Option ℕ) (k : TokenKind) (text : List ℕ) (line : ℕ) (ms : List Mark) → After undirected factor k text line ms (refused k) → ⊥
finish_found undirected factor End text line ms h = h
finish_found undirected factor k text line ms h = h

-- any place
pub turn_found : (undirected : Bool) (factor : Option ℕ) (p : Place) (s : State) (a : List DotToken) (k : TokenKind) (text : List ℕ) (line : ℕ) (ms : List Mark) → After undirected factor k text line ms (turn_at p undirected s k text a) → Needs undirected factor p s (mark_in line (Ok k) text ∷ ms)
turn_found undirected factor stands.Start s a k text line ms h = λ outer. start_found undirected factor s k text line ms outer h
turn_found undirected factor stands.Strict s a k text line ms h = λ outer. strict_found undirected factor s k text line ms outer h
turn_found undirected factor stands.Title s a k text line ms h = λ outer. title_found undirected factor s k text line ms outer h
turn_found undirected factor stands.Titled s a k text line ms h = λ outer. titled_found undirected factor s k text line ms outer h
turn_found undirected factor stands.Statement s a k text line ms h = statement_found undirected factor s a k text line ms h
turn_found undirected factor stands.Done s a k text line ms h = done_found undirected factor s a k text line ms h
turn_found undirected factor stands.Closed s a k text line ms h = closed_place_found undirected factor s a k text line ms h
turn_found undirected factor stands.Subgraph s a k text line ms h = subgraph_found undirected factor s k text line ms h
turn_found undirected factor stands.SubgraphTitled s a k text line ms h = subgraph_titled_found undirected factor s k text line ms h
turn_found undirected factor stands.Node s a k text line ms h = node_found undirected factor s a k text line ms h
turn_found undirected factor stands.Port s a k text line ms h = any_found undirected factor s stands.Ported (PortedAt factor s.depth s.directed s.owner) k text line ms (λ x. x) h
turn_found undirected factor stands.Ported s a k text line ms h = ported_found undirected factor s a k text line ms h
turn_found undirected factor stands.Side s a k text line ms h = any_found undirected factor s stands.Sided (ChainAt factor s.depth s.directed s.owner) k text line ms (λ x. x) h
turn_found undirected factor stands.Sided s a k text line ms h = sided_found undirected factor s a k text line ms h
turn_found undirected factor stands.EdgeEnd s a k text line ms h = edge_end_found undirected factor s k text line ms h
turn_found undirected factor stands.Key s a k text line ms h = key_found undirected factor s k text line ms h
turn_found undirected factor stands.Setting s a k text line ms h = any_found undirected factor s stands.Done (DoneAt factor s.depth s.directed) k text line ms (λ x. x) h
turn_found undirected factor stands.Brackets s a k text line ms h = brackets_found undirected factor s k text line ms h
turn_found undirected factor stands.List s a k text line ms h = list_found undirected factor s k text line ms h
turn_found undirected factor stands.ListKey s a k text line ms h = list_key_found undirected factor s k text line ms h
turn_found undirected factor stands.Value s a k text line ms h = value_found undirected factor s k text line ms h
turn_found undirected factor stands.Valued s a k text line ms h = valued_found undirected factor s k text line ms h
turn_found undirected factor stands.Listed s a k text line ms h = listed_found undirected factor s a k text line ms h
turn_found undirected factor stands.Over s a k text line ms h = over_found undirected factor s k text line ms h
turn_found undirected factor stands.Finish s a k text line ms h = absurd (finish_found undirected factor k text line ms h)
