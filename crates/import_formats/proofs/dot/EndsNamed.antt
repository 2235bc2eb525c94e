-- The ends of edges are nodes that are named.
use Rattle.std.proofs.Common.{◌≡◌, ℕ, List, [], ◌∷◌, ◌++◌, refl, sym, ap, subst, append_assoc, Option, Result, Ok, Err}
use Rattle.std.specs.List.{All, Contains}
use Rattle.std.proofs.lemmas.List.Elements.{All-nil, All-cons, All-append, All-weaker, Contains-append_left, Contains-append_right, Contains-push}
use Rattle.import_lines.specs.declared.weight.Weight.{Weight}
use Rattle.import_lines.specs.Named.{NamedEdge}
use Rattle.import_formats.specs.declared.dot.fault.DotFault.{DotFault}
use Rattle.import_formats.specs.dot.Graphs.{DotMention, DotEvent, NoEvent, BeginsEvent, JoinsEvent, WeighsEvent, DotGraph, and_then, mentions, chain, edges_in, graph_in, names, HasEnds, AreNamed}

names_append : (front back : List DotMention) → names (front ++ back) ≡ names front ++ names back
names_append [] back = refl
names_append (m ∷ front) back = ap (λ ns. m.name ∷ ns) (names_append front back)

-- more nodes in front, or after
more_behind : (front back : List DotMention) (es : List NamedEdge) → All (HasEnds (names front)) es → All (HasEnds (names (front ++ back))) es
more_behind front back es h =
    subst (λ ns. All (HasEnds ns) es) (sym (names_append front back))
    (All-weaker (HasEnds (names front)) (HasEnds (names front ++ names back)) (λ e k. (Contains-append_left (names front) (names back) e.first k.0, Contains-append_left (names front) (names back) e.second k.1)) es h)

more_before : (front back : List DotMention) (es : List NamedEdge) → All (HasEnds (names back)) es → All (HasEnds (names (front ++ back))) es
more_before front back es h =
    subst (λ ns. All (HasEnds ns) es) (sym (names_append front back))
    (All-weaker (HasEnds (names back)) (HasEnds (names front ++ names back)) (λ e k. (Contains-append_right (names front) (names back) e.first k.0, Contains-append_right (names front) (names back) e.second k.1)) es h)

first_named : (n : List ℕ) (ns : List (List ℕ)) → Contains (n ∷ ns) n
first_named n ns = Contains-append_left (n ∷ []) ns n (Contains-push [] n)

chain_named : (w : Weight) (ends : List DotMention) → All (HasEnds (names ends)) (chain w ends)
chain_named w [] = All-nil (HasEnds [])
chain_named w (a ∷ []) = All-nil (HasEnds (a.name ∷ []))
chain_named w (a ∷ b ∷ ms) =
    All-cons (HasEnds (names (a ∷ b ∷ ms))) _ (chain w (b ∷ ms))
    (first_named a.name (names (b ∷ ms)), Contains-append_right (a.name ∷ []) (names (b ∷ ms)) b.name (first_named b.name (names ms)))
    (more_before (a ∷ []) (b ∷ ms) (chain w (b ∷ ms)) (chain_named w (b ∷ ms)))

edges_named : (unsaid w : Weight) (ends : List DotMention) (es : List DotEvent) → All (HasEnds (names (ends ++ mentions es))) (edges_in unsaid w ends es)
edges_named unsaid w ends [] = more_behind ends [] (chain w ends) (chain_named w ends)
edges_named unsaid w ends (NoEvent ∷ es) = edges_named unsaid w ends es
edges_named unsaid w ends (BeginsEvent m ∷ es) =
    All-append (HasEnds (names (ends ++ m ∷ mentions es))) (chain w ends) (edges_in unsaid unsaid (m ∷ []) es)
    (more_behind ends (m ∷ mentions es) (chain w ends) (chain_named w ends))
    (more_before ends (m ∷ mentions es) (edges_in unsaid unsaid (m ∷ []) es) (edges_named unsaid unsaid (m ∷ []) es))
edges_named unsaid w ends (JoinsEvent m ∷ es) =
    subst (λ ms. All (HasEnds (names ms)) (edges_in unsaid w (ends ++ m ∷ []) es)) (append_assoc ends (m ∷ []) (mentions es)) (edges_named unsaid w (ends ++ m ∷ []) es)
edges_named unsaid w ends (WeighsEvent v ∷ es) = edges_named unsaid v ends es

-- a graph that is read
pub graph_named : (factor : Option ℕ) (read : Result (List DotEvent) DotFault) (g : DotGraph) → and_then read (λ es. Ok (graph_in factor es)) ≡ Ok g → AreNamed g
graph_named factor (Ok es) g is = (let same : graph_in factor es ≡ g = cc in subst AreNamed same (edges_named _ _ [] es))
graph_named factor (Err bad) g is = cc
