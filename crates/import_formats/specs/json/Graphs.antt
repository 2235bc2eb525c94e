-- The graph that a text of node-link JSON says.
use Rattle.std.specs.Prelude.{◌≡◌, ◌≢◌, ℕ, pos, ◌+◌, ◌*◌, Bool, true, false, ◌&&◌, not, codes, List, [], ◌∷◌, position, MatchResult, Option, Some, None, Result, Ok, Err, if◌then◌else◌}
use Rattle.std.specs.Option.{option_map, option_and_then, unwrap_or, is_some}
use Rattle.std.specs.Str.{is_utf8, bytes_eq}
use Rattle.std.specs.Fmt.{decimal}
use Rattle.std.specs.Int.{w64}
use Rattle.std.specs.Float.{Float, binary64, float_zero, float_round, float_to_unsigned}
use Rattle.std.specs.Float.Ieee.{mul, of_int, eq, lt}
use Rattle.serde_json.specs.Data.{Data, Items, no_items, item}
use Rattle.serde_json.specs.Find.{get, as_str, as_number, as_u64, as_i64, as_bool, as_array, to_float}
use Rattle.serde_json.specs.Read.{read}
use Rattle.net_names.specs.declared.fault.NamesFault.{NamesFault}
use Rattle.net_names.specs.declared.fault.NamesFault.TheVariants as name
use Rattle.net_names.specs.Naming.{with_name, number_in}
use Rattle.import_lines.specs.declared.weight_fault.WeightFault.{WeightFault}
use Rattle.import_lines.specs.declared.weight_fault.WeightFault.TheVariants.{Negative, Decimal, BadWeight}
use Rattle.import_lines.specs.declared.weight.Weight.{Weight}
use Rattle.import_lines.specs.Weights.{fitting}
use Rattle.import_links.specs.declared.placed.PlacedLink.{PlacedLink}
use Rattle.import_formats.specs.declared.json.ids.Holder.{Holder}
use Rattle.import_formats.specs.declared.json.ids.Holder.TheVariants as holder
use Rattle.import_formats.specs.declared.json.fault.LinkEnd.{LinkEnd}
use Rattle.import_formats.specs.declared.json.fault.LinkEnd.TheVariants.{Source, Target}
use Rattle.import_formats.specs.declared.json.fault.LinkList.{LinkList}
use Rattle.import_formats.specs.declared.json.fault.LinkList.TheVariants.{Links, Edges}
use Rattle.import_formats.specs.declared.json.fault.IdFault.{IdFault}
use Rattle.import_formats.specs.declared.json.fault.IdFault.TheVariants.{NoId, BadId}
use Rattle.import_formats.specs.declared.json.fault.NodeFault.TheVariants as node
use Rattle.import_formats.specs.declared.json.fault.LinkFault.TheVariants as link
use Rattle.import_formats.specs.declared.json.fault.JsonFault.{JsonFault}
use Rattle.import_formats.specs.declared.json.fault.JsonFault.TheVariants.{NotUtf8, NotJson, Directed, NoNodes, NoLinks, BadNode, BadLink, Memory}

-- the next step, at the value of a step that succeeds
abbrev pub and_then : {A B : Type 0} → Result A JsonFault → (A → Result B JsonFault) → Result B JsonFault
and_then (Ok x) next = next x
and_then (Err fault) next = Err fault

-- a value that is there, or the fault where it is not
abbrev pub or_fault : {A : Type 0} → JsonFault → Option A → Result A JsonFault
or_fault fault None = Err fault
or_fault fault (Some x) = Ok x

-- ---- ids

-- the members that are the ends of a link
abbrev pub key_of : LinkEnd → List ℕ
key_of Source = codes "source"
key_of Target = codes "target"

-- what is wrong with an id, beside where it stands
abbrev pub id_fault : Holder → IdFault → JsonFault
id_fault (holder.Node place) fault = BadNode place (node.Id fault)
id_fault (holder.End list place end) fault = BadLink list place (link.End end fault)

-- the text of an id: a string itself, else a whole number in decimal digits
abbrev pub text_or : Option (List ℕ) → Option ℕ → Option (List ℕ)
text_or (Some text) number = Some text
text_or None number = option_map decimal number

abbrev pub id_text : Data → Option (List ℕ)
id_text d = text_or (as_str d) (option_and_then as_u64 (as_number d))

-- the text of the id in a member, where it has one
abbrev pub id_said : Holder → Option Data → Result (List ℕ) JsonFault
id_said at None = Err (id_fault at NoId)
id_said at (Some d) = or_fault (id_fault at BadId) (id_text d)

abbrev pub id_in : Holder → List ℕ → Data → Result (List ℕ) JsonFault
id_in at key d = id_said at (get key d)

-- ---- nodes

-- why a name has no number, of the node at a place
abbrev pub name_fault : ℕ → NamesFault → JsonFault
name_fault place name.BadName = BadNode place node.BadName
name_fault place name.TooManyNames = BadNode place node.TooManyNodes
name_fault place name.Memory = Memory

-- the names with a new one, where it has a number
abbrev pub numbered : ℕ → List (List ℕ) → List ℕ → Result ℕ NamesFault → Result (List (List ℕ)) JsonFault
numbered place names name (Ok number) = Ok (with_name names name)
numbered place names name (Err fault) = Err (name_fault place fault)

-- the names with that of the node at a place, which is none of them, where there may be so many
abbrev pub with_new : ℕ → ℕ → List (List ℕ) → List ℕ → Result (List (List ℕ)) JsonFault
with_new most place names name =
    if is_some (position (bytes_eq name) names) then Err (BadNode place node.SameName)
    else numbered place names name (number_in most names name)

-- the names with the id of the node at a place
abbrev pub with_node : ℕ → ℕ → List (List ℕ) → Data → Result (List (List ℕ)) JsonFault
with_node most place names d = and_then (id_in (holder.Node place) (codes "id") d) (with_new most place names)

-- the names with the ids of nodes, the first of which stands at this place; or the fault of the first bad one
abbrev pub names_from : ℕ → ℕ → List (List ℕ) → List Data → Result (List (List ℕ)) JsonFault
names_from most place names [] = Ok names
names_from most place names (d ∷ ds) = and_then (with_node most place names d) (λ more. names_from most (place + 1) more ds)

-- ---- links

-- the number of the node that an end calls
abbrev pub end_in : List (List ℕ) → LinkList → ℕ → LinkEnd → Data → Result ℕ JsonFault
end_in names list place end d =
    and_then (id_in (holder.End list place end) (key_of end) d) (λ id.
    or_fault (BadLink list place (link.NoNode end)) (position (bytes_eq id) names))

-- the weight that a whole number times a factor is
abbrev pub weight_times : ℕ → ℕ → Result Weight WeightFault
weight_times factor number = fitting (factor * number) true

-- the weight nearest to a number of 64 bits, a half up
abbrev pub nearest_weight : Float → Result Weight WeightFault
nearest_weight x = fitting (float_to_unsigned w64 (float_round binary64 x)) (eq (float_round binary64 x) x)

-- the weight nearest to a decimal number from 0, times a factor
abbrev pub float_weight : ℕ → Float → Result Weight WeightFault
float_weight factor x = if lt x float_zero then Err Negative else nearest_weight (mul binary64 x (of_int binary64 (pos factor)))

-- the weight that a number says which is no whole number; without a factor it says none
abbrev pub decimal_weight : Option ℕ → Option Float → Result Weight WeightFault
decimal_weight factor None = Err BadWeight
decimal_weight None (Some x) = Err Decimal
decimal_weight (Some factor) (Some x) = float_weight factor x

abbrev pub other_weight : Option ℕ → Data → Result Weight WeightFault
other_weight factor d =
    if is_some (option_and_then as_i64 (as_number d)) then Err Negative
    else decimal_weight factor (option_map to_float (as_number d))

abbrev pub number_weight : Option ℕ → Data → Option ℕ → Result Weight WeightFault
number_weight factor d (Some number) = weight_times (unwrap_or factor 1) number
number_weight factor d None = other_weight factor d

-- the weight that a value says: a whole number, or where there is a factor any number, times that
abbrev pub value_weight : Option ℕ → Data → Result Weight WeightFault
value_weight factor d = number_weight factor d (option_and_then as_u64 (as_number d))

-- the weight of a link, which is 1, times the factor, where no member says it
abbrev pub member_weight : Option ℕ → Option Data → Result Weight WeightFault
member_weight factor None = Ok (record { value = unwrap_or factor 1; exact = true })
member_weight factor (Some d) = value_weight factor d

abbrev pub weighed : LinkList → ℕ → Result Weight WeightFault → Result Weight JsonFault
weighed list place (Ok weight) = Ok weight
weighed list place (Err fault) = Err (BadLink list place (link.Weight fault))

abbrev pub weight_in : LinkList → ℕ → Option ℕ → Data → Result Weight JsonFault
weight_in list place factor d = weighed list place (member_weight factor (get (codes "weight") d))

-- the link at a place of a list
abbrev pub link_in : List (List ℕ) → Option ℕ → LinkList → ℕ → Data → Result PlacedLink JsonFault
link_in names factor list place d =
    and_then (end_in names list place Source d) (λ a.
    and_then (end_in names list place Target d) (λ b.
    and_then (weight_in list place factor d) (λ weight.
    Ok (record { link = (a, b, weight.value); line = place; exact = weight.exact }))))

-- links, the first of which stands at this place; or the fault of the first bad one
abbrev pub links_from : List (List ℕ) → Option ℕ → LinkList → ℕ → List Data → Result (List PlacedLink) JsonFault
links_from names factor list place [] = Ok []
links_from names factor list place (d ∷ ds) =
    and_then (link_in names factor list place d) (λ l.
    and_then (links_from names factor list (place + 1) ds) (λ ls.
    Ok (l ∷ ls)))

-- ---- the graph

-- the member that lists links
abbrev pub list_key : LinkList → List ℕ
list_key Links = codes "links"
list_key Edges = codes "edges"

-- a graph says that it is directed
abbrev pub is_directed : Data → Bool
is_directed d = unwrap_or (option_and_then as_bool (get (codes "directed") d)) false

-- the items of a list
abbrev pub listed : Items → List Data
listed no_items = []
listed (item d ds) = d ∷ listed ds

-- the items of the list that is the member of this name
abbrev pub items_in : List ℕ → Data → Option (List Data)
items_in key d = option_map listed (option_and_then as_array (get key d))

abbrev pub node_list : Data → Result (List Data) JsonFault
node_list d = or_fault NoNodes (items_in (codes "nodes") d)

-- the first of two lists, which is that of links, where it is there; else the other, that of edges
abbrev pub first_list : Option (List Data) → Option (List Data) → Result (LinkList × List Data) JsonFault
first_list (Some links) edges = Ok (Links, links)
first_list None (Some edges) = Ok (Edges, edges)
first_list None None = Err NoLinks

abbrev pub link_list : Data → Result (LinkList × List Data) JsonFault
link_list d = first_list (items_in (codes "links") d) (items_in (codes "edges") d)

-- a graph: the names of its nodes, and the links between their numbers
pub record NodeLinks : Type 0 where
  pub names : List (List ℕ)
  pub links : List PlacedLink

-- the graph that a value says, of so many nodes at most, or its first fault
abbrev pub graph_in : ℕ → Bool → Option ℕ → Data → Result NodeLinks JsonFault
graph_in most undirected factor d =
    if not undirected && is_directed d then Err Directed
    else and_then (node_list d) (λ nodes.
    and_then (link_list d) (λ list.
    and_then (names_from most 0 [] nodes) (λ names.
    and_then (links_from names factor list.0 0 list.1) (λ links.
    Ok (record { names = names; links = links })))))

-- the value that a text of JSON is
abbrev pub value_of : List ℕ → Result Data JsonFault
value_of text = if is_utf8 text then or_fault (NotJson 0 0) (read text) else Err NotUtf8

-- the graph of a text, or the text's first fault; of JSON that cannot be read without where that is
abbrev pub graph_of : ℕ → Bool → Option ℕ → List ℕ → Result NodeLinks JsonFault
graph_of most undirected factor text = and_then (value_of text) (graph_in most undirected factor)

-- a fault without where JSON cannot be read
abbrev pub unplaced : JsonFault → JsonFault
unplaced (NotJson line column) = NotJson 0 0
unplaced fault = fault

-- what was returned, seen by view, is the defined result, or stands for running out of memory
abbrev pub IsAnswer : {A B : Type 0} → (B → A) → Result A JsonFault → Result B JsonFault → Type 0
IsAnswer view defined r = MatchResult r (λ x. defined ≡ Ok (view x)) (λ fault. fault ≢ Memory → defined ≡ Err fault)
