-- Parts of a tree, put together from its parts.
use Rattle.std.proofs.Common.{◌≡◌, ℕ, ◌+◌, ◌-◌, ◌==◌, nat_lt, Bool, true, false, List, [], ◌∷◌, refl, sym, ap, ◌∙◌, Option, Result, Ok, Err, if◌then◌else◌, ◌≤◌, ◌<◌, ◌++◌, filter, subst, arith, Some, None, IsOk, inl, inr, eqb-true, ltb-true}
use Rattle.std.proofs.lemmas.Bool.{false≢true, eqb-false}
use native.Mathlib.Nat.{max-le}
use Rattle.std.specs.List.{AllByRecursion, list_any}
use Rattle.import_formats.specs.declared.dot.token_kind.TokenKind.TheVariants.{Subgraph, BraceOpen, BraceClose, BracketOpen, Assign}
use Rattle.import_formats.specs.declared.dot.fault.DotLineFault.{DotLineFault}
use Rattle.import_formats.specs.declared.dot.fault.DotLineFault.TheVariants.{TooDeep}
use Rattle.import_formats.specs.declared.dot.state.Place.TheVariants as stands
use Rattle.import_formats.specs.declared.dot.state.Act.TheVariants as does
use Rattle.import_formats.specs.declared.dot.state.State.{State}
use Rattle.import_formats.specs.declared.dot.state.Owner.{Owner}
use Rattle.import_formats.specs.declared.dot.state.Owner.TheVariants as whose
use Rattle.import_formats.specs.declared.dot.fault.DotLineFault.TheVariants as fault
use Rattle.import_formats.specs.dot.Grammar.{opened, closed, most_depth}
use Rattle.import_formats.specs.dot.Graphs.{DotEvent, and_then, DotMention, is_backslash, is_control, plain_name}
use Rattle.import_formats.specs.dot.Meaning.{IsNodeName, names_weight, list_weights, weights_said, AreWeights, IsStatement, AreStatements, depth_of}
use Rattle.import_formats.specs.dot.Syntax.{Mark, IdMark, SignMark, DotId, Attribute, Port, NodeId, Statement, NodeStatement, EdgeStatement, DefaultStatement, SettingStatement, SubgraphHead, WordHead, NamedHead, Statements, NoStatement, OneStatement, OneSubgraph, attribute_marks, separator_marks, list_marks, port_marks, joined_marks, statement_marks, head_marks, semicolon_marks, statements_marks, name_marks, Default, default_sign}
use Rattle.import_formats.proofs.dot.AttributesRead.{Takes, list_more, one_weight}
use Rattle.import_formats.proofs.dot.Needs.{After, AreLevels, AttributesAt, BlockAt, BodyAt, DoneAt, IdAt, Level, ListsAt, NodeAt, SignAt, ValueAt, after_if, outer_marks, owner_behind}

-- ---- attributes and lists

pub takes_nil : (factor : Option ℕ) (owner : Owner) → Takes factor owner []
takes_nil factor whose.Edge = tt
takes_nil factor whose.EdgeDefault = refl
takes_nil factor whose.Node = tt
takes_nil factor whose.Other = tt

pub are_both : (factor : Option ℕ) (x y : List (List ℕ)) → AreWeights factor x → AreWeights factor y → AreWeights factor (x ++ y)
are_both factor [] y first second = second
are_both factor (word ∷ x) y first second = (first.0, are_both factor x y first.1 second)

pub none_both : (x y : List (List ℕ)) → x ≡ [] → y ≡ [] → x ++ y ≡ []
none_both [] y first second = second
none_both (word ∷ x) y first second = cc

pub takes_both : (factor : Option ℕ) (owner : Owner) (x y : List (List ℕ)) → Takes factor owner x → Takes factor owner y → Takes factor owner (x ++ y)
takes_both factor whose.Edge x y first second = are_both factor x y first second
takes_both factor whose.EdgeDefault x y first second = none_both x y first second
takes_both factor whose.Node x y first second = tt
takes_both factor whose.Other x y first second = tt

-- attributes in brackets are the first of lists
pub lists_with : (factor : Option ℕ) (depth : ℕ) (directed : Bool) (owner : Owner) (ms : List Mark) → AttributesAt factor depth directed owner ms → ListsAt factor depth directed owner (SignMark BracketOpen ∷ ms)
lists_with factor depth directed owner ms a = record {
  lists = a.attributes ∷ a.lists.lists;
  more = a.lists.more;
  takes = takes_both factor owner (list_weights a.attributes) (weights_said a.lists.lists) a.takes a.lists.takes;
  done = a.lists.done;
  spelled = ap (λ x. SignMark BracketOpen ∷ x) (a.spelled ∙ ap (attribute_marks a.attributes) a.lists.spelled);
}

-- an attribute in front of others
pub attributes_with : (factor : Option ℕ) (depth : ℕ) (directed : Bool) (owner : Owner) (name : DotId) (ms : List Mark)
    → SignAt Assign (ValueAt factor depth directed owner (names_weight name)) ms → AttributesAt factor depth directed owner (IdMark name ∷ ms)
attributes_with factor depth directed owner name ms key =
    (let value = key.rest in
    let valued = value.valued in
    let rest = valued.attributes in
    let a : Attribute = record { name = name; value = value.value; separator = valued.separator } in
    record {
      attributes = a ∷ rest.attributes;
      more = rest.more;
      takes = subst (Takes factor owner) (sym (list_more (names_weight name) a (filter (λ (x : Attribute). names_weight x.name) rest.attributes)))
          (takes_both factor owner (one_weight (names_weight name) value.value.text) (list_weights rest.attributes) value.takes rest.takes);
      lists = rest.lists;
      spelled = ap (λ x. IdMark name ∷ x) (key.spelled ∙ ap (λ x. SignMark Assign ∷ x) (value.spelled ∙ ap (λ x. IdMark value.value ∷ x) (valued.spelled ∙ ap (separator_marks valued.separator) rest.spelled)));
    })

-- ---- statements

pub statement_with : (factor : Option ℕ) (depth : ℕ) (directed : Bool) (statement : Statement) (ms : List Mark) → IsStatement factor statement → DoneAt factor depth directed ms → BlockAt factor depth directed (statement_marks directed statement ms)
statement_with factor depth directed statement ms is done = record {
  statements = OneStatement statement done.semicolon done.block.statements;
  levels = done.block.levels;
  are = (is, done.block.are);
  deep = done.block.deep;
  are_levels = done.block.are_levels;
  spelled = ap (statement_marks directed statement) (done.spelled ∙ ap (semicolon_marks done.semicolon) done.block.spelled);
}

pub subgraph_with : (factor : Option ℕ) (depth : ℕ) (directed : Bool) (head : SubgraphHead) (ms : List Mark) → BodyAt factor depth directed ms → BlockAt factor depth directed (head_marks head ms)
subgraph_with factor depth directed head ms b = record {
  statements = OneSubgraph head b.body b.done.semicolon b.done.block.statements;
  levels = b.done.block.levels;
  are = (b.are, b.done.block.are);
  deep = max-le b.deep b.done.block.deep;
  are_levels = b.done.block.are_levels;
  spelled = ap (head_marks head) (b.spelled ∙ ap (λ x. statements_marks directed b.body (SignMark BraceClose ∷ x)) (b.done.spelled ∙ ap (semicolon_marks b.done.semicolon) b.done.block.spelled));
}

-- after the word subgraph
pub word_with : (factor : Option ℕ) (depth : ℕ) (directed : Bool) (name : Option DotId) (more ms : List Mark) → ms ≡ name_marks name (SignMark BraceOpen ∷ more) → BodyAt factor depth directed more → BlockAt factor depth directed (SignMark Subgraph ∷ ms)
word_with factor depth directed None more ms spelled b = subst (λ x. BlockAt factor depth directed (SignMark Subgraph ∷ x)) (sym spelled) (subgraph_with factor depth directed WordHead more b)
word_with factor depth directed (Some name) more ms spelled b = subst (λ x. BlockAt factor depth directed (SignMark Subgraph ∷ x)) (sym spelled) (subgraph_with factor depth directed (NamedHead name) more b)

-- a node, and nodes that are joined to it
pub chain_with : (factor : Option ℕ) (depth : ℕ) (directed : Bool) (name : DotId) (port : Port) (others : List NodeId) (lists : List (List Attribute)) (ms : List Mark)
    → IsNodeName name → AllByRecursion (λ (n : NodeId). IsNodeName n.name) others → Takes factor (owner_behind whose.Node others) (weights_said lists) → DoneAt factor depth directed ms
    → BlockAt factor depth directed (IdMark name ∷ port_marks port (joined_marks directed others (list_marks lists ms)))
chain_with factor depth directed name port [] lists ms is are takes done = statement_with factor depth directed (NodeStatement (record { name = name; port = port }) lists) ms is done
chain_with factor depth directed name port (second ∷ others) lists ms is are takes done =
    statement_with factor depth directed (EdgeStatement (record { name = name; port = port }) second others lists) ms ((is, are), takes) done

pub node_with : (factor : Option ℕ) (depth : ℕ) (directed : Bool) (name : DotId) (ms : List Mark) → IsNodeName name → NodeAt factor depth directed whose.Node ms → BlockAt factor depth directed (IdMark name ∷ ms)
node_with factor depth directed name ms is n =
    subst (λ x. BlockAt factor depth directed (IdMark name ∷ x)) (sym (n.spelled ∙ ap (port_marks n.port) n.chain.spelled))
    (chain_with factor depth directed name n.port n.chain.others n.chain.lists n.chain.more is n.chain.are n.chain.takes n.chain.done)

pub setting_with : (factor : Option ℕ) (depth : ℕ) (directed : Bool) (name : DotId) (ms : List Mark) → SignAt Assign (IdAt (DoneAt factor depth directed)) ms → BlockAt factor depth directed (IdMark name ∷ ms)
setting_with factor depth directed name ms key =
    subst (λ x. BlockAt factor depth directed (IdMark name ∷ x)) (sym (key.spelled ∙ ap (λ x. SignMark Assign ∷ x) key.rest.spelled))
    (statement_with factor depth directed (SettingStatement name key.rest.id) key.rest.more tt key.rest.rest)

pub default_with : (factor : Option ℕ) (depth : ℕ) (directed : Bool) (owner : Owner) (default : Default) (ms : List Mark)
    → ((first : List Attribute) (lists : List (List Attribute)) → Takes factor owner (weights_said (first ∷ lists)) → IsStatement factor (DefaultStatement default first lists))
    → SignAt BracketOpen (AttributesAt factor depth directed owner) ms → BlockAt factor depth directed (SignMark (default_sign default) ∷ ms)
unfolding lists_with
default_with factor depth directed owner default ms is b =
    (let a = b.rest in
    subst (λ x. BlockAt factor depth directed (SignMark (default_sign default) ∷ x))
    (sym (b.spelled ∙ (lists_with factor depth directed owner b.more a).spelled))
    (statement_with factor depth directed (DefaultStatement default a.attributes a.lists.lists) a.lists.more (is a.attributes a.lists.lists (lists_with factor depth directed owner b.more a).takes) a.lists.done))

-- a subgraph's statements stand in a level of their own
pub body_with : (factor : Option ℕ) (depth : ℕ) (directed : Bool) (ms : List Mark) (statements : Statements) (levels : List Level)
    → AreStatements factor statements → depth_of statements ≤ 64 - (depth + 1) → depth < 64 → AreLevels factor (depth + 1) levels
    → ms ≡ statements_marks directed statements (SignMark BraceClose ∷ outer_marks directed levels) → BodyAt factor depth directed ms
body_with factor depth directed ms statements [] are deep room none spelled = absurd (omega (arith, none))
body_with factor depth directed ms statements (l ∷ levels) are deep room some spelled =
    (let same : some.0 ≡ depth = omega (arith, some.1) in
    record {
      body = statements;
      more = outer_marks directed (l ∷ levels);
      are = are;
      deep = omega (arith, deep, room);
      done = record {
        semicolon = l.semicolon;
        more = statements_marks directed l.statements (SignMark BraceClose ∷ outer_marks directed levels);
        block = record {
          statements = l.statements;
          levels = levels;
          are = some.2;
          deep = omega (arith, same, some.3);
          are_levels = subst (λ n. AreLevels factor n levels) same some.4;
          spelled = refl;
        };
        spelled = refl;
      };
      spelled = spelled;
    })

pub opened_found : (undirected : Bool) (factor : Option ℕ) (s : State) (text : List ℕ) (line : ℕ) (ms : List Mark) → After undirected factor BraceOpen text line ms (opened s) → BodyAt factor s.depth s.directed ms
opened_found undirected factor s text line ms h =
    elim (after_if undirected factor BraceOpen text line ms (nat_lt s.depth most_depth) (Ok (record s { place = stands.Statement; depth = s.depth + 1 }, does.Pass)) (Err fault.TooDeep) h) [
      | inl room ↦ (let b = room.1.1 in body_with factor s.depth s.directed ms b.statements b.levels b.are b.deep (ltb-true s.depth 64 room.0) b.are_levels b.spelled)
      | inr none ↦ absurd none.1
    ]

pub brace_with : (factor : Option ℕ) (depth : ℕ) (directed : Bool) (ms : List Mark) (levels : List Level) → AreLevels factor depth levels → ms ≡ outer_marks directed levels → BlockAt factor depth directed (SignMark BraceClose ∷ ms)
brace_with factor depth directed ms levels are spelled = record {
  statements = NoStatement;
  levels = levels;
  are = tt;
  deep = omega arith;
  are_levels = are;
  spelled = ap (λ x. SignMark BraceClose ∷ x) spelled;
}

pub closed_found : (undirected : Bool) (factor : Option ℕ) (s : State) (text : List ℕ) (line : ℕ) (ms : List Mark) → After undirected factor BraceClose text line ms (closed s) → BlockAt factor s.depth s.directed (SignMark BraceClose ∷ ms)
closed_found undirected factor s text line ms h =
    elim (after_if undirected factor BraceClose text line ms (s.depth == 0) (Ok (record s { place = stands.Over }, does.Pass)) (Ok (record s { place = stands.Closed; depth = s.depth - 1 }, does.Pass)) h) [
      | inl outer ↦ brace_with factor s.depth s.directed ms [] (eqb-true s.depth 0 outer.0) outer.1.1
      | inr inner ↦
          (let done = inner.1.1 in
          let some : (s.depth ≡ 0 → ⊥) = eqb-false s.depth 0 inner.0 in
          let less : s.depth ≡ s.depth - 1 + 1 = omega (arith, some) in
          brace_with factor s.depth s.directed ms (record { semicolon = done.semicolon; statements = done.block.statements } ∷ done.block.levels)
          (s.depth - 1, less, done.block.are, done.block.deep, done.block.are_levels)
          (done.spelled ∙ ap (semicolon_marks done.semicolon) done.block.spelled))
    ]

-- ---- names

pub plain_good : (text : List ℕ) (line : ℕ) (backslash control : Bool) (next : DotMention → Result DotEvent DotLineFault) → list_any is_backslash text ≡ backslash → list_any is_control text ≡ control
    → IsOk (and_then (if backslash then Err fault.Escape else if control then Err fault.ControlCharacter else Ok (record { name = text; line = line })) next) → IsNodeName (record { text = text; is_html = false; line = line })
plain_good text line true control next first second is = absurd (false≢true is)
plain_good text line false true next first second is = absurd (false≢true is)
plain_good text line false false next first second is = (refl, first, second)

-- a token that names a node is its name
pub name_good : (text : List ℕ) (line : ℕ) (next : DotMention → Result DotEvent DotLineFault) → IsOk (and_then (plain_name text line) next) → IsNodeName (record { text = text; is_html = false; line = line })
name_good text line next is = plain_good text line (list_any is_backslash text) (list_any is_control text) next refl refl is
