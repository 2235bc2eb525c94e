-- A token that is no ID says nothing, and neither its text nor what stands ahead of it matters.
use Rattle.std.proofs.Common.{◌≡◌, ℕ, ◌+◌, ◌-◌, ◌==◌, nat_lt, Bool, true, false, List, refl, sym, ap, ◌∙◌, Option, Result, Ok, Err, if◌then◌else◌}
use Rattle.import_formats.specs.declared.dot.token_kind.TokenKind.{TokenKind}
use Rattle.import_formats.specs.declared.dot.token_kind.TokenKind.TheVariants.{Name, Quoted, Html, Strict, Graph, Digraph, Node, Edge, Subgraph, BraceOpen, BraceClose, BracketOpen, BracketClose, Semicolon, Comma, Assign, Colon, Dashes, Arrow, End}
use Rattle.import_formats.specs.declared.dot.fault.DotLineFault.{DotLineFault}
use Rattle.import_formats.specs.declared.dot.fault.DotLineFault.TheVariants.{TooDeep, WrongEdge, Directed}
use Rattle.import_formats.specs.declared.dot.state.Place.{Place}
use Rattle.import_formats.specs.declared.dot.state.Place.TheVariants as stands
use Rattle.import_formats.specs.declared.dot.state.Act.TheVariants as does
use Rattle.import_formats.specs.declared.dot.state.State.{State}
use Rattle.import_formats.specs.dot.Lexing.{DotToken}
use Rattle.import_formats.specs.dot.Grammar.{Turn, refused, assigns, opened, closed, joined, at_start, at_strict, at_title, at_any, at_titled, at_statement, at_done, at_closed, at_subgraph, at_subgraph_titled, at_node, at_ported, at_sided, at_edge_end, at_key, at_brackets, at_list, at_list_key, at_value, at_valued, at_listed, at_over, turn_at, most_depth}
use Rattle.import_formats.specs.dot.Graphs.{DotEvent, NoEvent, and_then, said}

-- ---- what stands ahead matters only where it is =

abbrev pub Same : List DotToken → List DotToken → Type 0
Same a b = assigns a ≡ assigns b

pub statement_ahead : (s : State) (a b : List DotToken) (k : TokenKind) → Same a b → at_statement s a k ≡ at_statement s b k
statement_ahead s a b Name e = rw e refl
statement_ahead s a b Quoted e = rw e refl
statement_ahead s a b Html e = rw e refl
statement_ahead s a b k e = refl

pub done_ahead : (s : State) (a b : List DotToken) (k : TokenKind) → Same a b → at_done s a k ≡ at_done s b k
done_ahead s a b Semicolon e = refl
done_ahead s a b k e = statement_ahead s a b k e

pub closed_ahead : (s : State) (a b : List DotToken) (k : TokenKind) → Same a b → at_closed s a k ≡ at_closed s b k
closed_ahead s a b Dashes e = refl
closed_ahead s a b Arrow e = refl
closed_ahead s a b k e = done_ahead s a b k e

pub sided_ahead : (s : State) (a b : List DotToken) (k : TokenKind) → Same a b → at_sided s a k ≡ at_sided s b k
sided_ahead s a b Dashes e = refl
sided_ahead s a b Arrow e = refl
sided_ahead s a b BracketOpen e = refl
sided_ahead s a b k e = done_ahead s a b k e

pub ported_ahead : (s : State) (a b : List DotToken) (k : TokenKind) → Same a b → at_ported s a k ≡ at_ported s b k
ported_ahead s a b Colon e = refl
ported_ahead s a b k e = sided_ahead s a b k e

pub node_ahead : (s : State) (a b : List DotToken) (k : TokenKind) → Same a b → at_node s a k ≡ at_node s b k
node_ahead s a b Colon e = refl
node_ahead s a b k e = sided_ahead s a b k e

pub listed_ahead : (s : State) (a b : List DotToken) (k : TokenKind) → Same a b → at_listed s a k ≡ at_listed s b k
listed_ahead s a b BracketOpen e = refl
listed_ahead s a b k e = done_ahead s a b k e

pub turn_ahead : (p : Place) (undirected : Bool) (s : State) (k : TokenKind) (text : List ℕ) (a b : List DotToken) → Same a b → turn_at p undirected s k text a ≡ turn_at p undirected s k text b
turn_ahead stands.Statement undirected s k text a b e = statement_ahead s a b k e
turn_ahead stands.Done undirected s k text a b e = done_ahead s a b k e
turn_ahead stands.Closed undirected s k text a b e = closed_ahead s a b k e
turn_ahead stands.Node undirected s k text a b e = node_ahead s a b k e
turn_ahead stands.Ported undirected s k text a b e = ported_ahead s a b k e
turn_ahead stands.Sided undirected s k text a b e = sided_ahead s a b k e
turn_ahead stands.Listed undirected s k text a b e = listed_ahead s a b k e
turn_ahead p undirected s k text a b e = refl

-- ---- a token that is no ID

abbrev pub IsSign : TokenKind → Type 0
IsSign Name = ⊥
IsSign Quoted = ⊥
IsSign Html = ⊥
IsSign k = Unit {0}

pub list_text : (s : State) (k : TokenKind) (x y : List ℕ) → IsSign k → at_list s x k ≡ at_list s y k
list_text s Name x y is = absurd is
list_text s Quoted x y is = absurd is
list_text s Html x y is = absurd is
list_text s k x y is = refl

pub valued_text : (s : State) (k : TokenKind) (x y : List ℕ) → IsSign k → at_valued s x k ≡ at_valued s y k
valued_text s Name x y is = absurd is
valued_text s Quoted x y is = absurd is
valued_text s Html x y is = absurd is
valued_text s k x y is = refl

-- its text does not matter
pub turn_text : (p : Place) (undirected : Bool) (s : State) (k : TokenKind) (x y : List ℕ) (a : List DotToken) → IsSign k → turn_at p undirected s k x a ≡ turn_at p undirected s k y a
turn_text stands.List undirected s k x y a is = list_text s k x y is
turn_text stands.Valued undirected s k x y a is = valued_text s k x y is
turn_text p undirected s k x y a is = refl

-- and it says nothing
abbrev pub Quiet : Turn → Type 0
Quiet (Ok n) = n.1 ≡ does.Pass
Quiet (Err bad) = Unit {0}

pub quiet_if : (c : Bool) (x y : Turn) → Quiet x → Quiet y → Quiet (if c then x else y)
quiet_if true x y p q = p
quiet_if false x y p q = q

pub quiet_opened : (s : State) → Quiet (opened s)
quiet_opened s = quiet_if (nat_lt s.depth most_depth) (Ok (record s { place = stands.Statement; depth = s.depth + 1 }, does.Pass)) (Err TooDeep) refl tt

pub quiet_brace : (s : State) → Quiet (closed s)
quiet_brace s = quiet_if (s.depth == 0) (Ok (record s { place = stands.Over }, does.Pass)) (Ok (record s { place = stands.Closed; depth = s.depth - 1 }, does.Pass)) refl refl

pub quiet_joined : (s : State) (directed : Bool) → Quiet (joined s directed)
quiet_joined s true = quiet_if s.directed (Ok (record s { place = stands.EdgeEnd }, does.Pass)) (Err WrongEdge) refl tt
quiet_joined s false = quiet_if s.directed (Err WrongEdge) (Ok (record s { place = stands.EdgeEnd }, does.Pass)) tt refl

pub quiet_refused : (k : TokenKind) → Quiet (refused k)
quiet_refused End = tt
quiet_refused k = tt

pub quiet_any : (s : State) (p : Place) (k : TokenKind) → Quiet (at_any s p k)
quiet_any s p Name = refl
quiet_any s p Quoted = refl
quiet_any s p Html = refl
quiet_any s p k = tt

pub quiet_start : (undirected : Bool) (s : State) (k : TokenKind) → Quiet (at_start undirected s k)
quiet_start undirected s Strict = refl
quiet_start undirected s Graph = refl
quiet_start undirected s Digraph = quiet_if undirected (Ok (record s { place = stands.Title; directed = true }, does.Pass)) (Err Directed) refl tt
quiet_start undirected s k = tt

pub quiet_strict : (undirected : Bool) (s : State) (k : TokenKind) → Quiet (at_strict undirected s k)
quiet_strict undirected s Strict = tt
quiet_strict undirected s k = quiet_start undirected s k

pub quiet_title : (s : State) (k : TokenKind) → Quiet (at_title s k)
quiet_title s BraceOpen = refl
quiet_title s k = quiet_any s stands.Titled k

pub quiet_titled : (s : State) (k : TokenKind) → Quiet (at_titled s k)
quiet_titled s BraceOpen = refl
quiet_titled s k = tt

pub quiet_statement : (s : State) (a : List DotToken) (k : TokenKind) → IsSign k → Quiet (at_statement s a k)
quiet_statement s a Name is = absurd is
quiet_statement s a Quoted is = absurd is
quiet_statement s a Html is = absurd is
quiet_statement s a Graph is = refl
quiet_statement s a Node is = refl
quiet_statement s a Edge is = refl
quiet_statement s a Subgraph is = refl
quiet_statement s a BraceOpen is = quiet_opened s
quiet_statement s a BraceClose is = quiet_brace s
quiet_statement s a k is = tt

pub quiet_done : (s : State) (a : List DotToken) (k : TokenKind) → IsSign k → Quiet (at_done s a k)
quiet_done s a Semicolon is = refl
quiet_done s a k is = quiet_statement s a k is

pub quiet_closed : (s : State) (a : List DotToken) (k : TokenKind) → IsSign k → Quiet (at_closed s a k)
quiet_closed s a Dashes is = tt
quiet_closed s a Arrow is = tt
quiet_closed s a k is = quiet_done s a k is

pub quiet_subgraph : (s : State) (k : TokenKind) → Quiet (at_subgraph s k)
quiet_subgraph s BraceOpen = quiet_opened s
quiet_subgraph s k = quiet_any s stands.SubgraphTitled k

pub quiet_subgraph_titled : (s : State) (k : TokenKind) → Quiet (at_subgraph_titled s k)
quiet_subgraph_titled s BraceOpen = quiet_opened s
quiet_subgraph_titled s k = tt

pub quiet_sided : (s : State) (a : List DotToken) (k : TokenKind) → IsSign k → Quiet (at_sided s a k)
quiet_sided s a Dashes is = quiet_joined s false
quiet_sided s a Arrow is = quiet_joined s true
quiet_sided s a BracketOpen is = refl
quiet_sided s a k is = quiet_done s a k is

pub quiet_ported : (s : State) (a : List DotToken) (k : TokenKind) → IsSign k → Quiet (at_ported s a k)
quiet_ported s a Colon is = refl
quiet_ported s a k is = quiet_sided s a k is

pub quiet_node : (s : State) (a : List DotToken) (k : TokenKind) → IsSign k → Quiet (at_node s a k)
quiet_node s a Colon is = refl
quiet_node s a k is = quiet_sided s a k is

pub quiet_edge_end : (s : State) (k : TokenKind) → IsSign k → Quiet (at_edge_end s k)
quiet_edge_end s Name is = absurd is
quiet_edge_end s Quoted is = absurd is
quiet_edge_end s Html is = absurd is
quiet_edge_end s k is = tt

pub quiet_key : (s : State) (k : TokenKind) → Quiet (at_key s k)
quiet_key s Assign = refl
quiet_key s k = tt

pub quiet_brackets : (s : State) (k : TokenKind) → Quiet (at_brackets s k)
quiet_brackets s BracketOpen = refl
quiet_brackets s k = tt

pub quiet_list : (s : State) (text : List ℕ) (k : TokenKind) → IsSign k → Quiet (at_list s text k)
quiet_list s text Name is = absurd is
quiet_list s text Quoted is = absurd is
quiet_list s text Html is = absurd is
quiet_list s text BracketClose is = refl
quiet_list s text k is = tt

pub quiet_list_key : (s : State) (k : TokenKind) → Quiet (at_list_key s k)
quiet_list_key s Assign = refl
quiet_list_key s k = tt

pub quiet_value : (s : State) (k : TokenKind) → IsSign k → Quiet (at_value s k)
quiet_value s Name is = absurd is
quiet_value s Quoted is = absurd is
quiet_value s Html is = absurd is
quiet_value s k is = tt

pub quiet_valued : (s : State) (text : List ℕ) (k : TokenKind) → IsSign k → Quiet (at_valued s text k)
quiet_valued s text Semicolon is = refl
quiet_valued s text Comma is = refl
quiet_valued s text k is = quiet_list s text k is

pub quiet_listed : (s : State) (a : List DotToken) (k : TokenKind) → IsSign k → Quiet (at_listed s a k)
quiet_listed s a BracketOpen is = refl
quiet_listed s a k is = quiet_done s a k is

pub quiet_over : (s : State) (k : TokenKind) → Quiet (at_over s k)
quiet_over s End = refl
quiet_over s k = tt

pub quiet_turn : (p : Place) (undirected : Bool) (s : State) (k : TokenKind) (text : List ℕ) (a : List DotToken) → IsSign k → Quiet (turn_at p undirected s k text a)
quiet_turn stands.Start undirected s k text a is = quiet_start undirected s k
quiet_turn stands.Strict undirected s k text a is = quiet_strict undirected s k
quiet_turn stands.Title undirected s k text a is = quiet_title s k
quiet_turn stands.Titled undirected s k text a is = quiet_titled s k
quiet_turn stands.Statement undirected s k text a is = quiet_statement s a k is
quiet_turn stands.Done undirected s k text a is = quiet_done s a k is
quiet_turn stands.Closed undirected s k text a is = quiet_closed s a k is
quiet_turn stands.Subgraph undirected s k text a is = quiet_subgraph s k
quiet_turn stands.SubgraphTitled undirected s k text a is = quiet_subgraph_titled s k
quiet_turn stands.Node undirected s k text a is = quiet_node s a k is
quiet_turn stands.Port undirected s k text a is = quiet_any s stands.Ported k
quiet_turn stands.Ported undirected s k text a is = quiet_ported s a k is
quiet_turn stands.Side undirected s k text a is = quiet_any s stands.Sided k
quiet_turn stands.Sided undirected s k text a is = quiet_sided s a k is
quiet_turn stands.EdgeEnd undirected s k text a is = quiet_edge_end s k is
quiet_turn stands.Key undirected s k text a is = quiet_key s k
quiet_turn stands.Setting undirected s k text a is = quiet_any s stands.Done k
quiet_turn stands.Brackets undirected s k text a is = quiet_brackets s k
quiet_turn stands.List undirected s k text a is = quiet_list s text k is
quiet_turn stands.ListKey undirected s k text a is = quiet_list_key s k
quiet_turn stands.Value undirected s k text a is = quiet_value s k is
quiet_turn stands.Valued undirected s k text a is = quiet_valued s text k is
quiet_turn stands.Listed undirected s k text a is = quiet_listed s a k is
quiet_turn stands.Over undirected s k text a is = quiet_over s k
quiet_turn stands.Finish undirected s k text a is = quiet_refused k

-- what a turn and its token say
abbrev pub told : Option ℕ → TokenKind → List ℕ → ℕ → Turn → Result (State × DotEvent) DotLineFault
told factor k text line turn = and_then turn (λ n. and_then (said factor n.1 k text line) (λ e. Ok (n.0, e)))

pub quiet_told : (factor : Option ℕ) (k : TokenKind) (text : List ℕ) (line : ℕ) (turn : Turn) → Quiet turn → told factor k text line turn ≡ and_then turn (λ n. Ok (n.0, NoEvent))
quiet_told factor k text line (Ok n) q = rw q refl
quiet_told factor k text line (Err bad) q = refl

pub sign_told : (factor : Option ℕ) (k : TokenKind) (x y : List ℕ) (m n : ℕ) (first second : Turn) → first ≡ second → Quiet second → told factor k x m first ≡ told factor k y n second
sign_told factor k x y m n first second e q = ap (told factor k x m) e ∙ quiet_told factor k x m second q ∙ sym (quiet_told factor k y n second q)
