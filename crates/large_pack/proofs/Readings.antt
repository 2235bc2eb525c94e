-- What is known once a text is read.
use Rattle.std.proofs.Common.{◌≡◌, ◌∙◌, ℕ, Bool, not, ◌||◌, List, [], ◌∷◌, ◌++◌, refl, sym, ap, append_assoc, append-nil, Option, Some, None, Result, Ok, Err, inl, inr}
use Rattle.std.proofs.lemmas.Bool.{cases_Bool}
use Rattle.std.specs.Option.{IfSome}
use Rattle.std.proofs.lemmas.Option.{IfSome_then}
use Rattle.std.specs.List.{filter, AllByRecursion}
use Rattle.std.proofs.lemmas.List.Elements.{All-from_recursion, recursion_from_All, All-filter}
use Rattle.link_net.specs.Arcs.{Arc}
use Rattle.link_net.specs.Links.{AllWithin}
use Rattle.large_pack.specs.declared.edge_line.EdgeLine.{EdgeLine}
use Rattle.large_pack.specs.declared.options.PackOptions.{PackOptions}
use Rattle.large_pack.specs.declared.fault.PackFault.{PackFault}
use Rattle.large_pack.specs.declared.survey.Survey.{Survey}
use Rattle.large_pack.specs.declared.survey.Reading.{Reading}
use Rattle.large_pack.specs.declared.keys.KeyedEdges.{KeyedEdges}
use Rattle.large_pack.specs.declared.options.SelfLoops.{SelfLoops}
use Rattle.large_pack.specs.declared.options.SelfLoops.TheVariants.{Refuse as RefuseLoops, Drop as DropLoops, Keep as KeepLoops}
use Rattle.large_pack.specs.declared.pack.Packed.{Packed}
use Rattle.large_pack.specs.Lines.{and_then, edge_of, edges_in}
use Rattle.large_pack.specs.Sound.{is_loop, node_count, outside_fault, loop_fault, first_fault, node_fault, unless, sound_in}
use Rattle.large_pack.specs.Packing.{edge_arcs, arcs_of, straight_edges, packing_in, IsAnswer}
use Rattle.large_pack.specs.Surveys.{survey_of, survey_in, count_in}
use Rattle.large_pack.specs.Keys.{usual_weight, arcs_in, AreKeyed, IsRead}
use Rattle.large_pack.proofs.Rising.{EndsBelow}
use Rattle.large_pack.proofs.Sounds.{sound_edges}

-- ---- line by line

-- the edges so far, and their arcs
pub record ReadTo (o : PackOptions) (defined rest : Result (List EdgeLine) PackFault) (keyed : Option KeyedEdges) : Type 0 where
  pub done : List EdgeLine
  pub told : and_then rest (λ es. Ok (done ++ es)) ≡ defined
  pub arcs : IfSome keyed (λ k. AreKeyed o done k)

front_more : (done : List EdgeLine) (e : EdgeLine) (rest : Result (List EdgeLine) PackFault)
    → and_then (and_then rest (λ es. Ok (e ∷ es))) (λ es. Ok (done ++ es)) ≡ and_then rest (λ es. Ok ((done ++ e ∷ []) ++ es))
front_more done e (Ok es) = ap Ok (sym (append_assoc done (e ∷ []) es))
front_more done e (Err fault) = refl

before_all : (defined : Result (List EdgeLine) PackFault) → and_then defined (λ es. Ok ([] ++ es)) ≡ defined
before_all (Ok es) = refl
before_all (Err fault) = refl

-- no edge yet
pub from_start : (o : PackOptions) (defined : Result (List EdgeLine) PackFault) (keyed : Option KeyedEdges) → IfSome keyed (λ k. AreKeyed o [] k) → ReadTo o defined defined keyed
from_start o defined keyed are = record { done = []; told = before_all defined; arcs = are }

-- one edge more
pub to_next : (o : PackOptions) (defined : Result (List EdgeLine) PackFault) (lines rest : List (ℕ × List ℕ)) (l : ℕ × List ℕ) (e : EdgeLine) (old new : Option KeyedEdges)
    → ReadTo o defined (edges_in o lines) old → lines ≡ l ∷ rest → Ok e ≡ edge_of o l
    → ((done : List EdgeLine) → IfSome old (λ k. AreKeyed o done k) → IfSome new (λ k. AreKeyed o (done ++ e ∷ []) k)) → ReadTo o defined (edges_in o rest) new
to_next o defined lines rest l e old new was shape said step = record {
  done = was.done ++ e ∷ [];
  told = sym (front_more was.done e (edges_in o rest)) ∙ (sym (rw (shape, ← said) refl) ∙ was.told);
  arcs = step was.done was.arcs;
}

-- no line is left
pub to_end : (o : PackOptions) (defined : Result (List EdgeLine) PackFault) (lines : List (ℕ × List ℕ)) (keyed : Option KeyedEdges) → ReadTo o defined (edges_in o lines) keyed → lines ≡ []
    → (es : List EdgeLine) → defined ≡ Ok es → IfSome keyed (λ k. AreKeyed o es k)
to_end o defined lines keyed was none es is =
    let all : Ok (was.done ++ []) ≡ defined = rw none at was.told in
    let whole : was.done ≡ es = sym (append-nil was.done) ∙ cc in
    rw (← whole) was.arcs

-- ---- the whole

counts : (a b c : Option PackFault) (es : List EdgeLine) (n : ℕ) (count : List EdgeLine → ℕ) → n ≡ count es
    → unless a (unless b (unless c (Ok n))) ≡ and_then (unless a (unless b (unless c (Ok es)))) (λ x. Ok (count x))
counts None None None es n count is = ap Ok is
counts (Some x) b c es n count is = refl
counts None (Some x) c es n count is = refl
counts None None (Some x) es n count is = refl

-- the nodes of edges that are sound, or their fault
pub counted : (o : PackOptions) (defined : Result (List EdgeLine) PackFault) (s : Survey) → survey_in o defined ≡ Ok s → count_in o s ≡ and_then (and_then defined (sound_in o)) (λ es. Ok (node_count o.nodes es))
counted o (Err fault) s is = cc
counted o (Ok es) s is =
    let same : survey_of o es ≡ s = cc in
    rw (← same) (counts (node_fault (node_count o.nodes es)) (first_fault (outside_fault o.nodes) es) (first_fault (loop_fault o.self_loops) es) es (node_count o.nodes es) (node_count o.nodes) refl)

sound_is : (a b c : Option PackFault) (es : List EdgeLine) (n : ℕ) (count : List EdgeLine → ℕ) → Ok n ≡ and_then (unless a (unless b (unless c (Ok es)))) (λ x. Ok (count x))
    → (unless a (unless b (unless c (Ok es))) ≡ Ok es) × (n ≡ count es)
sound_is None None None es n count h = (refl, (let same : n ≡ count es = cc in same))
sound_is (Some x) b c es n count h = cc
sound_is None (Some x) c es n count h = cc
sound_is None None (Some x) es n count h = cc

edge_within : (n : ℕ) (dir : Bool) (e : EdgeLine) (later : List Arc) → EndsBelow n e → AllWithin n later → AllWithin n (edge_arcs dir e ++ later)
edge_within n dir e later within rest =
    elim (cases_Bool (dir || is_loop e)) [
      | inl one ↦ rw one (within, rest)
      | inr two ↦ rw two (within, ((within.1, within.0), rest))
    ]

all_within : (n : ℕ) (dir : Bool) (es : List EdgeLine) → AllByRecursion (EndsBelow n) es → AllWithin n (arcs_of dir es)
all_within n dir [] within = tt
all_within n dir (e ∷ es) within = edge_within n dir e (arcs_of dir es) within.0 (all_within n dir es within.1)

straight_within : (n : ℕ) (loops : SelfLoops) (es : List EdgeLine) → AllByRecursion (EndsBelow n) es → AllByRecursion (EndsBelow n) (straight_edges loops es)
straight_within n RefuseLoops es within = within
straight_within n KeepLoops es within = within
straight_within n DropLoops es within = recursion_from_All (EndsBelow n) (filter (λ e. not (is_loop e)) es) (All-filter (λ e. not (is_loop e)) (EndsBelow n) es (All-from_recursion (EndsBelow n) es within))

arcs_are_within : (o : PackOptions) (es : List EdgeLine) (n : ℕ) → AllByRecursion (EndsBelow n) es → (k : KeyedEdges) → AreKeyed o es k → AllWithin n (arcs_in (usual_weight o.factor) k.keys.items)
arcs_are_within o es n within k are = rw (are.arcs) (all_within n o.is_directed (straight_edges o.self_loops es) (straight_within n o.self_loops es within))

-- the arcs that are read lie between the nodes
pub read_within : (o : PackOptions) (defined : Result (List EdgeLine) PackFault) (reading : Reading) (n : ℕ) → IsRead o defined reading → Ok n ≡ and_then (and_then defined (sound_in o)) (λ es. Ok (node_count o.nodes es))
    → IfSome reading.keyed (λ k. AllWithin n (arcs_in (usual_weight o.factor) k.keys.items))
read_within o (Err fault) reading n read count = cc
read_within o (Ok es) reading n read count =
    IfSome_then reading.keyed {P = λ k. AreKeyed o es k} {Q = λ k. AllWithin n (arcs_in (usual_weight o.factor) k.keys.items)} (read.keyed es refl) (arcs_are_within o es n (sound_edges o es n count).within)

-- what the edges that are read are packed into is what those of the text are
pub read_answers : (o : PackOptions) (defined : Result (List EdgeLine) PackFault) (reading : Reading) (n : ℕ) (r : Result Packed PackFault) → IsRead o defined reading → Ok n ≡ and_then (and_then defined (sound_in o)) (λ es. Ok (node_count o.nodes es))
    → ((es : List EdgeLine) → IfSome reading.keyed (λ k. AreKeyed o es k) → n ≡ node_count o.nodes es → IsAnswer (packing_in o es) r) → IsAnswer (and_then (and_then defined (sound_in o)) (packing_in o)) r
read_answers o (Err fault) reading n r read count answers = cc
read_answers o (Ok es) reading n r read count answers =
    let sound = sound_is (node_fault (node_count o.nodes es)) (first_fault (outside_fault o.nodes) es) (first_fault (loop_fault o.self_loops) es) es n (node_count o.nodes) count in
    rw (sound.0) (answers es (read.keyed es refl) sound.1)
