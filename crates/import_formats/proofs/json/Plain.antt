-- The faults of a value tell no place in a text.
use Rattle.std.proofs.Common.{◌≡◌, ◌≢◌, ℕ, ◌+◌, ◌&&◌, not, codes, Bool, true, false, List, [], ◌∷◌, Option, Some, None, Result, Ok, Err, IfErr, MatchResult, refl, sym, ap, ◌∙◌, if◌then◌else◌}
use Rattle.std.specs.Prelude.{position}
use Rattle.std.specs.Option.{is_some}
use Rattle.std.specs.Str.{bytes_eq}
use Rattle.serde_json.specs.Data.{Data}
use Rattle.serde_json.specs.Find.{get}
use Rattle.net_names.specs.declared.fault.NamesFault.{NamesFault}
use Rattle.net_names.specs.declared.fault.NamesFault.TheVariants as name
use Rattle.net_names.specs.Naming.{number_in}
use Rattle.import_lines.specs.declared.weight.Weight.{Weight}
use Rattle.import_lines.specs.declared.weight_fault.WeightFault.{WeightFault}
use Rattle.import_formats.specs.declared.json.ids.Holder.{Holder}
use Rattle.import_formats.specs.declared.json.ids.Holder.TheVariants as holder
use Rattle.import_formats.specs.declared.json.fault.IdFault.{IdFault}
use Rattle.import_formats.specs.declared.json.fault.IdFault.TheVariants.{NoId, BadId}
use Rattle.import_formats.specs.declared.json.fault.LinkEnd.{LinkEnd}
use Rattle.import_formats.specs.declared.json.fault.LinkEnd.TheVariants.{Source, Target}
use Rattle.import_formats.specs.declared.json.fault.LinkList.{LinkList}
use Rattle.import_formats.specs.declared.json.fault.NodeFault.TheVariants as node
use Rattle.import_formats.specs.declared.json.fault.LinkFault.TheVariants as link
use Rattle.import_formats.specs.declared.json.fault.JsonFault.{JsonFault}
use Rattle.import_formats.specs.declared.json.fault.JsonFault.TheVariants.{Directed, NoNodes, BadNode, BadLink, Memory}
use Rattle.import_formats.specs.json.Graphs.{NodeLinks, and_then, or_fault, key_of, id_fault, id_text, id_said, id_in, numbered, with_new, with_node, names_from, end_in, member_weight, weighed, weight_in, link_in, links_from, is_directed, items_in, node_list, first_list, link_list, graph_in, unplaced}

-- the fault, if there is one, tells no place in a text
abbrev IsPlain : {A : Type 0} → Result A JsonFault → Type 0
IsPlain r = IfErr r (λ fault. unplaced fault ≡ fault)

then_plain : {A B : Type 0} (r : Result A JsonFault) (next : A → Result B JsonFault) → IsPlain r → ((x : A) → IsPlain (next x)) → IsPlain (and_then r next)
then_plain (Ok x) next first later = later x
then_plain (Err fault) next first later = first

or_plain : {A : Type 0} (fault : JsonFault) (o : Option A) → unplaced fault ≡ fault → IsPlain (or_fault fault o)
or_plain fault None plain = plain
or_plain fault (Some x) plain = tt

if_plain : {A : Type 0} (test : Bool) (fault : JsonFault) (r : Result A JsonFault) → unplaced fault ≡ fault → IsPlain r → IsPlain (if test then Err fault else r)
if_plain true fault r plain other = plain
if_plain false fault r plain other = other

id_plain : (at : Holder) (fault : IdFault) → unplaced (id_fault at fault) ≡ id_fault at fault
id_plain (holder.Node place) fault = refl
id_plain (holder.End list place end) fault = refl

said_plain : (at : Holder) (o : Option Data) → IsPlain (id_said at o)
said_plain at None = id_plain at NoId
said_plain at (Some d) = or_plain (id_fault at BadId) (id_text d) (id_plain at BadId)

numbered_plain : (place : ℕ) (names : List (List ℕ)) (text : List ℕ) (r : Result ℕ NamesFault) → IsPlain (numbered place names text r)
numbered_plain place names text (Ok number) = tt
numbered_plain place names text (Err name.BadName) = refl
numbered_plain place names text (Err name.TooManyNames) = refl
numbered_plain place names text (Err name.Memory) = refl

node_plain : (most place : ℕ) (names : List (List ℕ)) (d : Data) → IsPlain (with_node most place names d)
node_plain most place names d =
    then_plain (id_in (holder.Node place) (codes "id") d) (with_new most place names) (said_plain (holder.Node place) (get (codes "id") d))
    (λ name. if_plain (is_some (position (bytes_eq name) names)) (BadNode place node.SameName) (numbered place names name (number_in most names name)) refl (numbered_plain place names name (number_in most names name)))

names_plain : (most place : ℕ) (names : List (List ℕ)) (ds : List Data) → IsPlain (names_from most place names ds)
names_plain most place names [] = tt
names_plain most place names (d ∷ ds) = then_plain (with_node most place names d) (λ more. names_from most (place + 1) more ds) (node_plain most place names d) (λ more. names_plain most (place + 1) more ds)

weighed_plain : (list : LinkList) (place : ℕ) (r : Result Weight WeightFault) → IsPlain (weighed list place r)
weighed_plain list place (Ok weight) = tt
weighed_plain list place (Err fault) = refl

module _ (names : List (List ℕ)) (factor : Option ℕ) (list : LinkList) where
  end_plain : (place : ℕ) (end : LinkEnd) (d : Data) → IsPlain (end_in names list place end d)
  end_plain place end d =
      then_plain (id_in (holder.End list place end) (key_of end) d) (λ id. or_fault (BadLink list place (link.NoNode end)) (position (bytes_eq id) names))
      (said_plain (holder.End list place end) (get (key_of end) d)) (λ id. or_plain (BadLink list place (link.NoNode end)) (position (bytes_eq id) names) refl)

  link_plain : (place : ℕ) (d : Data) → IsPlain (link_in names factor list place d)
  link_plain place d =
      then_plain (end_in names list place Source d) (λ a. and_then (end_in names list place Target d) (λ b. and_then (weight_in list place factor d) (λ weight. Ok (record { link = (a, b, weight.value); line = place; exact = weight.exact }))))
      (end_plain place Source d)
      (λ a. then_plain (end_in names list place Target d) (λ b. and_then (weight_in list place factor d) (λ weight. Ok (record { link = (a, b, weight.value); line = place; exact = weight.exact })))
      (end_plain place Target d)
      (λ b. then_plain (weight_in list place factor d) (λ weight. Ok (record { link = (a, b, weight.value); line = place; exact = weight.exact }))
      (weighed_plain list place (member_weight factor (get (codes "weight") d))) (λ weight. tt)))

  links_plain : (place : ℕ) (ds : List Data) → IsPlain (links_from names factor list place ds)
  links_plain place [] = tt
  links_plain place (d ∷ ds) =
      then_plain (link_in names factor list place d) (λ l. and_then (links_from names factor list (place + 1) ds) (λ ls. Ok (l ∷ ls)))
      (link_plain place d)
      (λ l. then_plain (links_from names factor list (place + 1) ds) (λ ls. Ok (l ∷ ls)) (links_plain (place + 1) ds) (λ ls. tt))

list_plain : (links edges : Option (List Data)) → IsPlain (first_list links edges)
list_plain (Some links) edges = tt
list_plain None (Some edges) = tt
list_plain None None = refl

abbrev links_then : Option ℕ → List (List ℕ) → LinkList × List Data → Result NodeLinks JsonFault
links_then factor names list = and_then (links_from names factor list.0 0 list.1) (λ links. Ok (record { names = names; links = links }))

abbrev names_then : ℕ → Option ℕ → List Data → LinkList × List Data → Result NodeLinks JsonFault
names_then most factor nodes list = and_then (names_from most 0 [] nodes) (λ names. links_then factor names list)

graph_plain : (most : ℕ) (undirected : Bool) (factor : Option ℕ) (d : Data) → IsPlain (graph_in most undirected factor d)
graph_plain most undirected factor d =
    if_plain (not undirected && is_directed d) Directed (and_then (node_list d) (λ nodes. and_then (link_list d) (λ list. names_then most factor nodes list))) refl
    (then_plain (node_list d) (λ nodes. and_then (link_list d) (λ list. names_then most factor nodes list)) (or_plain NoNodes (items_in (codes "nodes") d) refl)
    (λ nodes. then_plain (link_list d) (λ list. names_then most factor nodes list) (list_plain (items_in (codes "links") d) (items_in (codes "edges") d))
    (λ list. then_plain (names_from most 0 [] nodes) (λ names. links_then factor names list) (names_plain most 0 [] nodes)
    (λ names. then_plain (links_from names factor list.0 0 list.1) (λ links. Ok (record { names = names; links = links })) (links_plain names factor list.0 0 list.1) (λ links. tt)))))

told_plain : {A : Type 0} (r : Result A JsonFault) (fault : JsonFault) → IsPlain r → r ≡ Err fault → unplaced fault ≡ fault
told_plain (Ok x) fault plain is = cc
told_plain (Err bad) fault plain is = (let same : bad ≡ fault = cc in rw same at plain)

-- the graph of a text is that of its value
pub graph_told : {A : Type 0} (view : A → NodeLinks) (most : ℕ) (undirected : Bool) (factor : Option ℕ) (d : Data) (read : Result Data JsonFault) (r : Result A JsonFault) → read ≡ Ok d
    → MatchResult r (λ g. graph_in most undirected factor d ≡ Ok (view g)) (λ fault. fault ≢ Memory → graph_in most undirected factor d ≡ Err fault)
    → MatchResult r (λ g. and_then read (graph_in most undirected factor) ≡ Ok (view g)) (λ fault. fault ≢ Memory → and_then read (graph_in most undirected factor) ≡ Err (unplaced fault))
graph_told view most undirected factor d read (Ok g) is told = rw is told
graph_told view most undirected factor d read (Err fault) is told =
    λ other. (let bad = told other in rw is (bad ∙ ap Err (sym (told_plain (graph_in most undirected factor d) fault (graph_plain most undirected factor d) bad))))
