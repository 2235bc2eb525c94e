-- Networks of graphs.
use Rattle.std.proofs.Common.{◌≡◌, ◌≢◌, inr, subst, ℕ, List, [], ◌∷◌, map, refl, ap, ◌∙◌, Result, Ok, Err, IfOk, IfErr}
use Rattle.std.specs.Result.{IsErrAnd}
use Rattle.import_lines.specs.declared.mention.Mention.{Mention}
use Rattle.import_formats.specs.declared.dot.fault.DotFault.{DotFault}
use Rattle.import_formats.specs.declared.dot.fault.DotFault.TheVariants.{BadLine, Memory as NoDotMemory}
use Rattle.import_formats.specs.dot.Graphs.{DotGraph, names}
use Rattle.import_formats.specs.dot.View.{mention_of}
use Rattle.import_lines.specs.Named.{NamedEdge}
use Rattle.import_links.specs.Joining.{names_of, names_in, names_with}
use Rattle.import_network.specs.declared.making.Making.{Making}
use Rattle.import_network.specs.declared.fault.ImportFault.{ImportFault}
use Rattle.import_network.specs.declared.fault.ImportFault.TheVariants.{Edges, Table, Matrix, Dot, Json, Join, Numbers, Settle, Packing, Memory}
use Rattle.import_network.specs.declared.imported.Imported.{Imported}
use Rattle.import_network.specs.Faults.{dot_fault}
use Rattle.import_network.specs.Drafts.{IsMadeOf, IsImportedGraph, graph_names, named_draft}
use Rattle.import_network.specs.Naming.{IsNameFile, IsNamesOfGraph, IsJoinFault, IsGraphFault, IsSaidFault, IsDotFault}

-- the names of mentions are those of the nodes that they are
pub names_same : (mentions : List Mention) → names_of mentions ≡ names (map mention_of mentions)
names_same [] = refl
names_same (m ∷ ms) = ap (λ ns. m.name.now ∷ ns) (names_same ms)

-- the fault of a graph's edges is one of the graph
pub edges_refused : (making : Making) (g : DotGraph) (fault : ImportFault) → IsJoinFault making (graph_names g) g.edges fault → IsGraphFault making g fault
edges_refused making g (Edges why) bad = bad
edges_refused making g (Table why) bad = bad
edges_refused making g (Matrix why) bad = bad
edges_refused making g (Dot why) bad = bad
edges_refused making g (Json why) bad = bad
edges_refused making g (Join why) bad = inr bad
edges_refused making g (Numbers why) bad = bad
edges_refused making g (Settle why) bad = bad
edges_refused making g (Packing why) bad = bad
edges_refused making g Memory bad = bad

module _ (making : Making) (g : DotGraph) (says : Result DotGraph DotFault → Type 0) (given : List (List ℕ)) (edges : List NamedEdge) (is_said : says (Ok g)) (named : given ≡ graph_names g) (these : edges ≡ g.edges) where
  pub dot_network : (r : Result Imported ImportFault) → IfOk r (IsMadeOf making (named_draft given edges)) → IfOk r (IsImportedGraph making says)
  dot_network (Ok imported) made = record { graph = g; is_said = is_said; made_of = rw (named, these) at made }
  dot_network (Err fault) made = tt

  pub dot_names : (r : Result Imported ImportFault) → IfOk r (λ imported. IsNameFile (names_with given edges) imported.names.items) → IfOk r (λ imported. IsNamesOfGraph says imported.names.items)
  dot_names (Ok imported) are = record { graph = g; is_said = is_said; names = rw (named, these) at are }
  dot_names (Err fault) are = tt

  pub dot_refused : (r : Result Imported ImportFault) → IfErr r (IsJoinFault making given edges) → IfErr r (IsDotFault making says)
  dot_refused (Ok imported) why = tt
  dot_refused (Err fault) why = record { said = Ok g; is_said = is_said; why = edges_refused making g fault (rw (named, these) at why) }

-- what a text says that was read
pub said_graph : (says : Result DotGraph DotFault → Type 0) (said : Result DotGraph DotFault) (g : DotGraph) → says said → said ≡ Ok g → says (Ok g)
said_graph says said g is_said same = subst says same is_said

pub same_fault : {A : Type 0} (read : Result A DotFault) (bad fault : DotFault) → read ≡ Err bad → read ≡ Err fault → bad ≡ fault
same_fault read bad fault one other = cc

given_fault : (told : Result Imported ImportFault) (bad : DotFault) → IsErrAnd told (λ e. e ≡ dot_fault bad) → told ≡ Err (dot_fault bad)
given_fault (Ok imported) bad given = absurd given
given_fault (Err fault) bad given = ap Err given

-- the fault of what a text says that was not read
said_refused : (making : Making) (says : Result DotGraph DotFault → Type 0) (said : Result DotGraph DotFault) (bad : DotFault) → says said → (bad ≢ NoDotMemory → said ≡ Err bad) → ((fault : DotFault) → says (Err fault) → bad ≡ fault) → IsSaidFault making said (dot_fault bad)
said_refused making says (Err fault) bad is_said answer refused = ap dot_fault (refused fault is_said)
said_refused making says (Ok g) NoDotMemory is_said answer refused = tt
said_refused making says (Ok g) (BadLine line fault) is_said answer refused = absurd (let clash = answer (λ e. cc) in cc)

-- a text that was not read: what was returned is the fault of reading
module _ (told : Result Imported ImportFault) (bad : DotFault) (given : IsErrAnd told (λ e. e ≡ dot_fault bad)) where
  pub read_fault : (fault : DotFault) → bad ≡ fault → told ≡ Err (dot_fault fault)
  read_fault fault same = given_fault told bad given ∙ ap (λ f. Err (dot_fault f)) same

  pub read_refused : (making : Making) (says : Result DotGraph DotFault → Type 0) (said : Result DotGraph DotFault) → says said → (bad ≢ NoDotMemory → said ≡ Err bad) → ((fault : DotFault) → says (Err fault) → bad ≡ fault) → IfErr told (IsDotFault making says)
  read_refused making says said is_said answer refused = rw (given_fault told bad given) (record { said = said; is_said = is_said; why = said_refused making says said bad is_said answer refused })

-- the names that the mentions of a graph gave
pub given_names : (g : DotGraph) (mentions items : List Mention) (given : List (List ℕ)) → given ≡ names_in [] (names_of mentions) → mentions ≡ items → map mention_of items ≡ g.nodes → given ≡ graph_names g
given_names g mentions items given named same nodes = named ∙ ap (λ ms. names_in [] (names_of ms)) same ∙ ap (names_in []) (names_same items) ∙ ap (λ ns. names_in [] (names ns)) nodes
