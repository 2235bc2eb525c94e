-- Attributes are read, and the weight that they say.
use Rattle.std.proofs.Common.{◌≡◌, ℕ, Bool, true, false, List, [], ◌∷◌, map, refl, sym, ap, ◌∙◌, Option, Result, Ok, Err, ◌&&◌, cond, ◌++◌, filter, subst, IsOk}
use Rattle.std.proofs.lemmas.Bool.{false≢true}
use Rattle.import_lines.specs.declared.weight.Weight.{Weight}
use Rattle.import_lines.specs.declared.weight_fault.WeightFault.{WeightFault}
use Rattle.import_lines.specs.Weights.{weight_of}
use Rattle.import_formats.specs.declared.dot.token_kind.TokenKind.TheVariants.{Node, Edge, BracketClose, Assign}
use Rattle.import_formats.specs.declared.dot.fault.DotLineFault.{DotLineFault}
use Rattle.import_formats.specs.declared.dot.state.Place.{Place}
use Rattle.import_formats.specs.declared.dot.state.Place.TheVariants as stands
use Rattle.import_formats.specs.declared.dot.state.Act.TheVariants as does
use Rattle.import_formats.specs.declared.dot.state.State.{State}
use Rattle.import_formats.specs.declared.dot.token_kind.TokenKind.TheVariants as kind
use Rattle.import_formats.specs.declared.dot.fault.DotFault.{DotFault}
use Rattle.import_formats.specs.declared.dot.state.Owner.{Owner}
use Rattle.import_formats.specs.declared.dot.state.Owner.TheVariants as whose
use Rattle.import_formats.specs.dot.Lexing.{DotToken}
use Rattle.import_formats.specs.dot.Grammar.{turn_at, keyed, valued, is_default, is_edge}
use Rattle.import_formats.specs.dot.Graphs.{DotEvent, DotGraph, and_then, at_line, unsaid_weight, weighed}
use Rattle.import_formats.specs.dot.Meaning.{names_weight, list_weights, weights_said, weight_or, last_weight, AreWeights}
use Rattle.import_formats.specs.dot.Syntax.{Mark, IdMark, SignMark, DotId, Separator, NoSeparator, SemicolonSeparator, CommaSeparator, Attribute, attribute_marks, separator_marks, list_marks}
use Rattle.import_formats.proofs.dot.Building.{Built, build, built_with}
use Rattle.import_formats.proofs.dot.Marked.{id_kind, marked_tokens}
use Rattle.import_formats.proofs.dot.Starts.{AtListed, Behind, at, behind, behind_place, go}
use Rattle.import_formats.proofs.dot.NodesRead.{Bare, NodePlace, Once, Twice, node_behind, node_place}

-- ---- attributes

-- of whose attributes which weights may be said
abbrev pub Takes : Option ℕ → Owner → List (List ℕ) → Type 0
Takes factor whose.Edge words = AreWeights factor words
Takes factor whose.EdgeDefault words = words ≡ []
Takes factor whose.Node words = Unit {0}
Takes factor whose.Other words = Unit {0}

abbrev pub weight_behind : Option ℕ → Owner → Weight → List (List ℕ) → Weight
weight_behind factor whose.Edge w words = last_weight factor w words
weight_behind factor whose.EdgeDefault w words = w
weight_behind factor whose.Node w words = w
weight_behind factor whose.Other w words = w

abbrev pub reweighed : Built → Weight → Built
reweighed b w = record { nodes = b.nodes; edges = b.edges; ends = b.ends; weight = w }

pub are_append : (factor : Option ℕ) (x y : List (List ℕ)) → AreWeights factor (x ++ y) → AreWeights factor x × AreWeights factor y
are_append factor [] y h = (tt, h)
are_append factor (word ∷ x) y h = (let more = are_append factor x y h.1 in ((h.0, more.0), more.1))

pub none_append : (x y : List (List ℕ)) → x ++ y ≡ [] → (x ≡ []) × (y ≡ [])
none_append [] y h = (refl, h)
none_append (word ∷ x) y h = cc

pub takes_append : (factor : Option ℕ) (owner : Owner) (x y : List (List ℕ)) → Takes factor owner (x ++ y) → Takes factor owner x × Takes factor owner y
takes_append factor whose.Edge x y h = are_append factor x y h
takes_append factor whose.EdgeDefault x y h = none_append x y h
takes_append factor whose.Node x y h = (tt, tt)
takes_append factor whose.Other x y h = (tt, tt)

pub last_append : (factor : Option ℕ) (w : Weight) (x y : List (List ℕ)) → last_weight factor w (x ++ y) ≡ last_weight factor (last_weight factor w x) y
last_append factor w [] y = refl
last_append factor w (word ∷ x) y = last_append factor (weight_or w (weight_of factor word)) x y

pub weight_append : (factor : Option ℕ) (owner : Owner) (w : Weight) (x y : List (List ℕ)) → weight_behind factor owner w (x ++ y) ≡ weight_behind factor owner (weight_behind factor owner w x) y
weight_append factor whose.Edge w x y = last_append factor w x y
weight_append factor whose.EdgeDefault w x y = refl
weight_append factor whose.Node w x y = refl
weight_append factor whose.Other w x y = refl

-- the weight that one attribute says
abbrev pub one_weight : Bool → List ℕ → List (List ℕ)
one_weight true text = text ∷ []
one_weight false text = []

pub list_more : (weighs : Bool) (a : Attribute) (others : List Attribute) → map (λ (x : Attribute). x.value.text) (cond weighs (a ∷ others) others) ≡ one_weight weighs a.value.text ++ map (λ (x : Attribute). x.value.text) others
list_more true a others = refl
list_more false a others = refl

pub weight_nil : (factor : Option ℕ) (owner : Owner) (w : Weight) → weight_behind factor owner w [] ≡ w
weight_nil factor whose.Edge w = refl
weight_nil factor whose.EdgeDefault w = refl
weight_nil factor whose.Node w = refl
weight_nil factor whose.Other w = refl

pub weigh_ok : (sofar : Weight) (r : Result Weight WeightFault) → IsOk r → r ≡ Ok (weight_or sofar r)
weigh_ok sofar (Ok w) is = refl
weigh_ok sofar (Err bad) is = absurd (false≢true is)

-- in brackets: after a bracket or a separator, or after an attribute
abbrev pub in_list : Bool → Place
in_list true = stands.Valued
in_list false = stands.List

pub key_turn : (v : Bool) (undirected : Bool) (depth : ℕ) (directed : Bool) (owner : Owner) (w : Bool) (text : List ℕ) (html : Bool) (a : List DotToken)
    → turn_at (in_list v) undirected (at (in_list v) depth directed owner w) (id_kind html) text a ≡ keyed (at (in_list v) depth directed owner w) (names_weight (record { text = text; is_html = html; line = 0 }))
key_turn true undirected depth directed owner w text true a = refl
key_turn true undirected depth directed owner w text false a = refl
key_turn false undirected depth directed owner w text true a = refl
key_turn false undirected depth directed owner w text false a = refl

pub keyed_free : (v : Bool) (depth : ℕ) (directed : Bool) (owner : Owner) (w c : Bool) → (c && is_default owner) ≡ false → keyed (at (in_list v) depth directed owner w) c ≡ Ok (at stands.ListKey depth directed owner c, does.Pass)
keyed_free v depth directed owner w c free = rw free refl

pub key_read : (undirected : Bool) (factor : Option ℕ) (b : Built) (v : Bool) (depth : ℕ) (directed : Bool) (owner : Owner) (w : Bool) (name : DotId) (ms : List Mark) (c : Bool)
    → names_weight name ≡ c → (c && is_default owner) ≡ false
    → go undirected factor b (at (in_list v) depth directed owner w) (IdMark name ∷ SignMark kind.Assign ∷ ms) ≡ go undirected factor b (at stands.Value depth directed owner c) ms
key_read undirected factor b v depth directed owner w name ms c is free =
    ap (behind undirected factor b (id_kind name.is_html) name.text name.line (SignMark kind.Assign ∷ ms))
    (key_turn v undirected depth directed owner w name.text name.is_html (marked_tokens (SignMark kind.Assign ∷ ms)) ∙ ap (keyed (at (in_list v) depth directed owner w)) is ∙ keyed_free v depth directed owner w c free)

pub value_turn : (undirected : Bool) (s : State) (text : List ℕ) (html : Bool) (a : List DotToken) → turn_at stands.Value undirected s (id_kind html) text a ≡ valued s
value_turn undirected s text true a = refl
value_turn undirected s text false a = refl

pub valued_free : (depth : ℕ) (directed : Bool) (owner : Owner) (c : Bool) → (c && is_edge owner) ≡ false → valued (at stands.Value depth directed owner c) ≡ Ok (at stands.Valued depth directed owner c, does.Pass)
valued_free depth directed owner c free = rw free refl

pub value_read : (undirected : Bool) (factor : Option ℕ) (b : Built) (depth : ℕ) (directed : Bool) (owner : Owner) (c : Bool) (value : DotId) (ms : List Mark) → (c && is_edge owner) ≡ false
    → go undirected factor b (at stands.Value depth directed owner c) (IdMark value ∷ ms) ≡ go undirected factor b (at stands.Valued depth directed owner c) ms
value_read undirected factor b depth directed owner c value ms free =
    ap (behind undirected factor b (id_kind value.is_html) value.text value.line ms) (value_turn undirected (at stands.Value depth directed owner c) value.text value.is_html (marked_tokens ms) ∙ valued_free depth directed owner c free)

abbrev pub valued_with : ℕ → Bool → DotEvent → Result (State × DotEvent) DotLineFault
valued_with depth directed e = Ok (at stands.Valued depth directed whose.Edge true, e)

-- what is built after an attribute that says this weight
abbrev pub weighed_behind : Bool → Option ℕ → Built → ℕ → Bool → ℕ → List Mark → Result Weight WeightFault → Result DotGraph DotFault
weighed_behind undirected factor b depth directed line ms r =
    and_then (at_line line (and_then (weighed r) (λ (e : DotEvent). valued_with depth directed e))) (λ n. build undirected factor (built_with (unsaid_weight factor) b n.1) n.0 (marked_tokens ms))

pub weight_read : (undirected : Bool) (factor : Option ℕ) (b : Built) (depth : ℕ) (directed : Bool) (value : DotId) (ms : List Mark) → IsOk (weight_of factor value.text)
    → go undirected factor b (at stands.Value depth directed whose.Edge true) (IdMark value ∷ ms) ≡ go undirected factor (reweighed b (weight_or b.weight (weight_of factor value.text))) (at stands.Valued depth directed whose.Edge true) ms
weight_read undirected factor b depth directed value ms is =
    ap (behind undirected factor b (id_kind value.is_html) value.text value.line ms) (value_turn undirected (at stands.Value depth directed whose.Edge true) value.text value.is_html (marked_tokens ms))
    ∙ ap (weighed_behind undirected factor b depth directed value.line ms) (weigh_ok b.weight (weight_of factor value.text) is)

pub attribute_read : (undirected : Bool) (factor : Option ℕ) (b : Built) (v : Bool) (depth : ℕ) (directed : Bool) (owner : Owner) (w : Bool) (name value : DotId) (ms : List Mark) (c : Bool)
    → names_weight name ≡ c → Takes factor owner (one_weight c value.text)
    → go undirected factor b (at (in_list v) depth directed owner w) (IdMark name ∷ SignMark kind.Assign ∷ IdMark value ∷ ms)
    ≡ go undirected factor (reweighed b (weight_behind factor owner b.weight (one_weight c value.text))) (at stands.Valued depth directed owner c) ms
attribute_read undirected factor b v depth directed whose.Edge w name value ms true is takes =
    key_read undirected factor b v depth directed whose.Edge w name (IdMark value ∷ ms) true is refl ∙ weight_read undirected factor b depth directed value ms takes.0
attribute_read undirected factor b v depth directed whose.Edge w name value ms false is takes =
    key_read undirected factor b v depth directed whose.Edge w name (IdMark value ∷ ms) false is refl ∙ value_read undirected factor b depth directed whose.Edge false value ms refl
attribute_read undirected factor b v depth directed whose.EdgeDefault w name value ms true is takes = cc
attribute_read undirected factor b v depth directed whose.EdgeDefault w name value ms false is takes =
    key_read undirected factor b v depth directed whose.EdgeDefault w name (IdMark value ∷ ms) false is refl ∙ value_read undirected factor b depth directed whose.EdgeDefault false value ms refl
attribute_read undirected factor b v depth directed whose.Node w name value ms true is takes =
    key_read undirected factor b v depth directed whose.Node w name (IdMark value ∷ ms) true is refl ∙ value_read undirected factor b depth directed whose.Node true value ms refl
attribute_read undirected factor b v depth directed whose.Node w name value ms false is takes =
    key_read undirected factor b v depth directed whose.Node w name (IdMark value ∷ ms) false is refl ∙ value_read undirected factor b depth directed whose.Node false value ms refl
attribute_read undirected factor b v depth directed whose.Other w name value ms true is takes =
    key_read undirected factor b v depth directed whose.Other w name (IdMark value ∷ ms) true is refl ∙ value_read undirected factor b depth directed whose.Other true value ms refl
attribute_read undirected factor b v depth directed whose.Other w name value ms false is takes =
    key_read undirected factor b v depth directed whose.Other w name (IdMark value ∷ ms) false is refl ∙ value_read undirected factor b depth directed whose.Other false value ms refl

pub separator_read : (undirected : Bool) (factor : Option ℕ) (b : Built) (depth : ℕ) (directed : Bool) (owner : Owner) (w : Bool) (separator : Separator) (ms : List Mark) (result : Result DotGraph DotFault)
    → ((v : Bool) → go undirected factor b (at (in_list v) depth directed owner w) ms ≡ result) → go undirected factor b (at stands.Valued depth directed owner w) (separator_marks separator ms) ≡ result
separator_read undirected factor b depth directed owner w NoSeparator ms result goes = goes true
separator_read undirected factor b depth directed owner w SemicolonSeparator ms result goes = goes false
separator_read undirected factor b depth directed owner w CommaSeparator ms result goes = goes false

pub bracket_read : (undirected : Bool) (factor : Option ℕ) (b : Built) (v : Bool) (depth : ℕ) (directed : Bool) (owner : Owner) (w : Bool) (ms : List Mark)
    → go undirected factor b (at (in_list v) depth directed owner w) (SignMark kind.BracketClose ∷ ms) ≡ go undirected factor b (at stands.Listed depth directed owner w) ms
bracket_read undirected factor b true depth directed owner w ms = refl
bracket_read undirected factor b false depth directed owner w ms = refl

pub attributes_read : (undirected : Bool) (factor : Option ℕ) (b : Built) (v : Bool) (depth : ℕ) (directed : Bool) (owner : Owner) (w : Bool) (attributes : List Attribute) (ms : List Mark) (result : Result DotGraph DotFault)
    → Takes factor owner (list_weights attributes)
    → ((later : Bool) → go undirected factor (reweighed b (weight_behind factor owner b.weight (list_weights attributes))) (at stands.Listed depth directed owner later) ms ≡ result)
    → go undirected factor b (at (in_list v) depth directed owner w) (attribute_marks attributes ms) ≡ result
attributes_read undirected factor b v depth directed owner w [] ms result takes goes =
    bracket_read undirected factor b v depth directed owner w ms ∙ ap (λ x. go undirected factor (reweighed b x) (at stands.Listed depth directed owner w) ms) (sym (weight_nil factor owner b.weight)) ∙ goes w
attributes_read undirected factor b v depth directed owner w (a ∷ attributes) ms result takes goes =
    (let c = names_weight a.name in
    let words = one_weight c a.value.text in
    let more : list_weights (a ∷ attributes) ≡ words ++ list_weights attributes = list_more c a (filter (λ (x : Attribute). names_weight x.name) attributes) in
    let both = takes_append factor owner words (list_weights attributes) (subst (Takes factor owner) more takes) in
    let next = reweighed b (weight_behind factor owner b.weight words) in
    attribute_read undirected factor b v depth directed owner w a.name a.value (separator_marks a.separator (attribute_marks attributes ms)) c refl both.0
    ∙ separator_read undirected factor next depth directed owner c a.separator (attribute_marks attributes ms) result (λ v'. attributes_read undirected factor next v' depth directed owner c attributes ms result both.1
    (λ later. ap (λ x. go undirected factor (reweighed b x) (at stands.Listed depth directed owner later) ms) (sym (weight_append factor owner b.weight words (list_weights attributes)) ∙ ap (weight_behind factor owner b.weight) (sym more)) ∙ goes later)))

pub lists_read : (undirected : Bool) (factor : Option ℕ) (b : Built) (depth : ℕ) (directed : Bool) (owner : Owner) (w : Bool) (lists : List (List Attribute)) (ms : List Mark) (result : Result DotGraph DotFault)
    → Takes factor owner (weights_said lists)
    → ((later : Bool) → go undirected factor (reweighed b (weight_behind factor owner b.weight (weights_said lists))) (at stands.Listed depth directed owner later) ms ≡ result)
    → go undirected factor b (at stands.Listed depth directed owner w) (list_marks lists ms) ≡ result
lists_read undirected factor b depth directed owner w [] ms result takes goes =
    ap (λ x. go undirected factor (reweighed b x) (at stands.Listed depth directed owner w) ms) (sym (weight_nil factor owner b.weight)) ∙ goes w
lists_read undirected factor b depth directed owner w (attributes ∷ lists) ms result takes goes =
    (let words = list_weights attributes in
    let both = takes_append factor owner words (weights_said lists) takes in
    attributes_read undirected factor b false depth directed owner w attributes (list_marks lists ms) result both.0 (λ w'. lists_read undirected factor (reweighed b (weight_behind factor owner b.weight words)) depth directed owner w' lists ms result both.1
    (λ later. ap (λ x. go undirected factor (reweighed b x) (at stands.Listed depth directed owner later) ms) (sym (weight_append factor owner b.weight words (weights_said lists))) ∙ goes later)))

-- lists after a node
pub node_lists_read : (undirected : Bool) (factor : Option ℕ) (b : Built) (n : NodePlace) (depth : ℕ) (directed : Bool) (owner : Owner) (w : Bool) (lists : List (List Attribute)) (ms : List Mark) (result : Result DotGraph DotFault)
    → Takes factor owner (weights_said lists)
    → ((x : Behind) (later : Bool) → go undirected factor (reweighed b (weight_behind factor owner b.weight (weights_said lists))) (at (behind_place x) depth directed owner later) ms ≡ result)
    → go undirected factor b (at (node_place n) depth directed owner w) (list_marks lists ms) ≡ result
node_lists_read undirected factor b n depth directed owner w [] ms result takes goes =
    ap (λ x. go undirected factor (reweighed b x) (at (node_place n) depth directed owner w) ms) (sym (weight_nil factor owner b.weight)) ∙ goes (node_behind n) w
node_lists_read undirected factor b Bare depth directed owner w (attributes ∷ lists) ms result takes goes = lists_read undirected factor b depth directed owner w (attributes ∷ lists) ms result takes (goes AtListed)
node_lists_read undirected factor b Once depth directed owner w (attributes ∷ lists) ms result takes goes = lists_read undirected factor b depth directed owner w (attributes ∷ lists) ms result takes (goes AtListed)
node_lists_read undirected factor b Twice depth directed owner w (attributes ∷ lists) ms result takes goes = lists_read undirected factor b depth directed owner w (attributes ∷ lists) ms result takes (goes AtListed)
