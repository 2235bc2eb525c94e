-- Internal: arcs as single numbers. No public clause cites it.
use Rattle.std.specs.Prelude.{◌≡◌, ℕ, ◌*◌, ◌+◌, ◌/◌, ◌%◌, ◌==◌, ◌<◌, ◌≤◌, Bool, false, ◌||◌, List, [], ◌∷◌, map, length, slice_index_or, Option, Result, Ok, Err, IfSome, MatchResult}
use Rattle.std.specs.Option.{unwrap_or}
use Rattle.link_net.specs.Arcs.{Arc}
use Rattle.large_pack.specs.declared.edge_line.EdgeLine.{EdgeLine}
use Rattle.large_pack.specs.declared.options.PackOptions.{PackOptions}
use Rattle.large_pack.specs.declared.options.SelfLoops.{SelfLoops}
use Rattle.large_pack.specs.declared.options.SelfLoops.TheVariants.{Refuse as RefuseLoops, Drop as DropLoops, Keep as KeepLoops}
use Rattle.large_pack.specs.declared.fault.PackFault.{PackFault}
use Rattle.large_pack.specs.declared.keys.KeyedEdges.{KeyedEdges}
use Rattle.large_pack.specs.declared.survey.Reading.{Reading}
use Rattle.large_pack.specs.Lines.{edges_in}
use Rattle.large_pack.specs.Sound.{is_loop}
use Rattle.large_pack.specs.Packing.{arcs_of, straight_edges}
use Rattle.large_pack.specs.Surveys.{survey_in}

-- the weight of an edge that says none
abbrev pub usual_weight : Option ℕ → ℕ
usual_weight factor = unwrap_or factor 1

-- an arc as one number
abbrev pub key_of : Arc → ℕ
key_of a = a.0 * 4294967296 + a.1

-- the arc of this weight that a number stands for
abbrev pub arc_in : ℕ → ℕ → Arc
arc_in weight key = (key / 4294967296, key % 4294967296, weight)

abbrev pub arcs_in : ℕ → List ℕ → List Arc
arcs_in weight keys = map (arc_in weight) keys

-- the edge is a self-loop that is left out
abbrev pub is_dropped : SelfLoops → EdgeLine → Bool
is_dropped DropLoops e = is_loop e
is_dropped RefuseLoops e = false
is_dropped KeepLoops e = false

-- numbers before place i stand for arcs from below u, and those from place i on do not
pub record IsFirstKey (keys : List ℕ) (u i : ℕ) : Type 0 where
  pub bound : i ≤ length keys
  pub before : (k : ℕ) (d : ℕ) → k < i → slice_index_or keys k d / 4294967296 < u
  pub after : (k : ℕ) (d : ℕ) → i ≤ k → k < length keys → u ≤ slice_index_or keys k d / 4294967296

-- some number is the one before it
abbrev pub repeats_after : ℕ → List ℕ → Bool
repeats_after k [] = false
repeats_after k (l ∷ ls) = l == k || repeats_after l ls

abbrev pub repeats : List ℕ → Bool
repeats [] = false
repeats (k ∷ ks) = repeats_after k ks

-- the numbers stand for the arcs of these edges, which all have the usual weight
pub record AreKeyed (options : PackOptions) (edges : List EdgeLine) (keyed : KeyedEdges) : Type 0 where
  pub arcs : arcs_in (usual_weight options.factor) keyed.keys.items ≡ arcs_of options.is_directed (straight_edges options.self_loops edges)
  pub lines : keyed.lines ≡ length edges
  pub straight : keyed.dropped_loops + length (straight_edges options.self_loops edges) ≡ length edges

-- what edges that are read tell together, and the numbers that stand for their arcs, where there are any
pub record IsRead (options : PackOptions) (defined : Result (List EdgeLine) PackFault) (reading : Reading) : Type 0 where
  pub survey : survey_in options defined ≡ Ok reading.survey
  pub keyed : (es : List EdgeLine) → defined ≡ Ok es → IfSome reading.keyed (λ keyed. AreKeyed options es keyed)

-- what was read of these lines, or the fault of the first that says no edge
abbrev pub IsReadOf : PackOptions → List (ℕ × List ℕ) → Result Reading PackFault → Type 0
IsReadOf options lines result =
    MatchResult result (IsRead options (edges_in options lines)) (λ fault. edges_in options lines ≡ Err fault)
