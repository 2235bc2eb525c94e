-- The numbers that stand for the arcs of edges.
use Rattle.std.proofs.Common.{◌≡◌, ◌∙◌, ℕ, ◌+◌, ◌*◌, ◌/◌, ◌%◌, ◌<◌, ◌≤◌, Bool, true, false, not, ◌&&◌, ◌||◌, List, [], ◌∷◌, ◌++◌, map, length, nat_lt, refl, sym, ap, append-nil, length-append, Option, Some, Ok, Err, arith, inl, inr}
use Rattle.std.proofs.lemmas.Bool.{cases_Bool}
use Rattle.std.specs.Option.{IfSome}
use Rattle.std.specs.List.Sorted.{IsPermutation, IsNonDecreasing}
use Rattle.std.proofs.lemmas.List.{length-map, map-append}
use Rattle.std.proofs.lemmas.Grind.{flat_map-append}
use Rattle.std.proofs.lemmas.List.Elements.{filter-append}
use Rattle.std.proofs.lemmas.List.Sorted.{IsPermutation-map, IsPermutation-sym, length_permutation}
use Rattle.std.proofs.lemmas.Map.Keys.{IsDistinct-IsPermutation}
use Rattle.link_net.specs.Limits.{most_rows}
use Rattle.link_net.specs.Links.{AllWithin}
use Rattle.large_pack.specs.declared.edge_line.EdgeLine.{EdgeLine}
use Rattle.large_pack.specs.declared.keys.KeyedEdges.{KeyedEdges}
use Rattle.large_pack.specs.declared.options.PackOptions.{PackOptions}
use Rattle.large_pack.specs.declared.options.SelfLoops.{SelfLoops}
use Rattle.large_pack.specs.declared.options.SelfLoops.TheVariants.{Refuse as RefuseLoops, Drop as DropLoops, Keep as KeepLoops}
use Rattle.large_pack.specs.declared.fault.PackFault.TheVariants.{TooManyEdges}
use Rattle.large_pack.specs.declared.pack.Packed.{Packed}
use Rattle.large_pack.specs.Rows.{HasArcs}
use Rattle.large_pack.specs.Sound.{is_loop, node_count}
use Rattle.large_pack.specs.Packing.{straight_edges, merges, refuses, edge_arcs, arcs_of, packing_in, IsAnswer}
use Rattle.large_pack.specs.Keys.{usual_weight, key_of, arc_in, arcs_in, is_dropped, repeats, AreKeyed}
use Rattle.large_pack.proofs.Apart.{same_key, same_key_flips, distinct_keys, AreSettled, settled_by_numbers, settled_by_wish}
use Rattle.large_pack.proofs.Laying.{within_moved}
use Rattle.large_pack.proofs.Packs.{arcs_moved, more_test, few_test}

-- ---- one edge more

module _ (o : PackOptions) (done : List EdgeLine) (e : EdgeLine) where
  straight_one : (loops : SelfLoops) → straight_edges loops (done ++ e ∷ []) ≡ straight_edges loops done ++ straight_edges loops (e ∷ [])
  straight_one RefuseLoops = refl
  straight_one KeepLoops = refl
  straight_one DropLoops = filter-append (λ x. not (is_loop x)) done (e ∷ [])

  drops : (loops : SelfLoops) → is_dropped loops e ≡ true → straight_edges loops (e ∷ []) ≡ []
  drops RefuseLoops h = cc
  drops KeepLoops h = cc
  drops DropLoops h = rw h refl

  stays : (loops : SelfLoops) → is_dropped loops e ≡ false → straight_edges loops (e ∷ []) ≡ e ∷ []
  stays RefuseLoops h = refl
  stays KeepLoops h = refl
  stays DropLoops h = rw h refl

  straight_dropped : is_dropped o.self_loops e ≡ true → straight_edges o.self_loops (done ++ e ∷ []) ≡ straight_edges o.self_loops done
  straight_dropped h = straight_one o.self_loops ∙ rw (drops o.self_loops h) (append-nil (straight_edges o.self_loops done))

  straight_kept : is_dropped o.self_loops e ≡ false → straight_edges o.self_loops (done ++ e ∷ []) ≡ straight_edges o.self_loops done ++ e ∷ []
  straight_kept h = straight_one o.self_loops ∙ rw (stays o.self_loops h) refl

  -- a self-loop that is left out
  pub keyed_dropped : (old new : KeyedEdges) → AreKeyed o done old → is_dropped o.self_loops e ≡ true → new.keys.items ≡ old.keys.items → new.lines ≡ old.lines + 1 → new.dropped_loops ≡ old.dropped_loops + 1 → AreKeyed o (done ++ e ∷ []) new
  keyed_dropped old new was drop keys lines dropped = record {
    arcs = rw (keys, straight_dropped drop) was.arcs;
    lines = omega (arith, lines, was.lines, length-append done (e ∷ []));
    straight = rw (straight_dropped drop) (omega (arith, dropped, was.straight, length-append done (e ∷ [])));
  }

arc_back : (w a b v : ℕ) → b < 4294967296 → v ≡ w → arc_in w (key_of (a, b, v)) ≡ (a, b, v)
arc_back w a b v small same =
    let one : (a * 4294967296 + b) / 4294967296 ≡ a = omega arith in
    let two : (a * 4294967296 + b) % 4294967296 ≡ b = omega arith in
    rw (one, two, same) refl

arcs_back : (w : ℕ) (dir : Bool) (e : EdgeLine) → e.first < 4294967296 → e.second < 4294967296 → e.weight ≡ w → arcs_in w (map key_of (edge_arcs dir e)) ≡ edge_arcs dir e
arcs_back w dir e one two same =
    elim (cases_Bool (dir || is_loop e)) [
      | inl way ↦ rw (way, arc_back w e.first e.second e.weight two same) refl
      | inr way ↦ rw (way, arc_back w e.first e.second e.weight two same, arc_back w e.second e.first e.weight one same) refl
    ]

module _ (o : PackOptions) (done : List EdgeLine) (e : EdgeLine) (one : e.first < 4294967296) (two : e.second < 4294967296) (same : e.weight ≡ usual_weight o.factor) where
  abbrev w : ℕ
  w = usual_weight o.factor

  arcs_more : (items : List ℕ) → arcs_in w items ≡ arcs_of o.is_directed (straight_edges o.self_loops done) → is_dropped o.self_loops e ≡ false
      → arcs_in w (items ++ map key_of (edge_arcs o.is_directed e)) ≡ arcs_of o.is_directed (straight_edges o.self_loops (done ++ e ∷ []))
  arcs_more items was stay =
      map-append (arc_in w) items (map key_of (edge_arcs o.is_directed e))
      ∙ rw (was, arcs_back w o.is_directed e one two same, straight_kept o done e stay, flat_map-append) (ap (λ t. arcs_of o.is_directed (straight_edges o.self_loops done) ++ t) (sym (append-nil (edge_arcs o.is_directed e))))

  -- an edge that stays
  pub keyed_kept : (old new : KeyedEdges) → AreKeyed o done old → is_dropped o.self_loops e ≡ false → new.keys.items ≡ old.keys.items ++ map key_of (edge_arcs o.is_directed e) → new.lines ≡ old.lines + 1 → new.dropped_loops ≡ old.dropped_loops → AreKeyed o (done ++ e ∷ []) new
  keyed_kept old new was stay keys lines dropped = record {
    arcs = rw keys (arcs_more old.keys.items was.arcs stay);
    lines = omega (arith, lines, was.lines, length-append done (e ∷ []));
    straight = rw (straight_kept o done e stay) (omega (arith, dropped, was.straight, length-append done (e ∷ []), length-append (straight_edges o.self_loops done) (e ∷ [])));
  }

-- the numbers that are there
pub keyed_here : (o : PackOptions) (done : List EdgeLine) (keyed : Option KeyedEdges) (k : KeyedEdges) → keyed ≡ Some k → IfSome keyed (λ x. AreKeyed o done x) → AreKeyed o done k
keyed_here o done keyed k is h = rw is at h

-- they lie between the nodes in any order
pub within_here : (n w : ℕ) (keyed : Option KeyedEdges) (k : KeyedEdges) (sorted : List ℕ) → keyed ≡ Some k → IfSome keyed (λ x. AllWithin n (arcs_in w x.keys.items)) → IsPermutation k.keys.items sorted → AllWithin n (arcs_in w sorted)
within_here n w keyed k sorted is h moved =
    let here : AllWithin n (arcs_in w k.keys.items) = rw is at h in
    within_moved n (arcs_in w k.keys.items) (arcs_in w sorted) here (IsPermutation-map (arc_in w) k.keys.items sorted moved)

-- ---- the whole

key_back : (w k : ℕ) → key_of (arc_in w k) ≡ k
key_back w k = omega arith

keys_back : (w : ℕ) (ks : List ℕ) → map key_of (arcs_in w ks) ≡ ks
keys_back w [] = refl
keys_back w (k ∷ ks) = rw (key_back w k) (ap (λ t. k ∷ t) (keys_back w ks))

module _ (o : PackOptions) (es : List EdgeLine) (keyed : KeyedEdges) (are : AreKeyed o es keyed) (sorted : List ℕ) (moved : IsPermutation keyed.keys.items sorted) where
  abbrev weight : ℕ
  weight = usual_weight o.factor

  abbrev straight : List EdgeLine
  straight = straight_edges o.self_loops es

  numbers_are : map key_of (arcs_of o.is_directed straight) ≡ keyed.keys.items
  numbers_are = ap (map key_of) (sym are.arcs) ∙ keys_back weight keyed.keys.items

  settled : IsNonDecreasing sorted → ((merges o.parallel || refuses o.parallel) && repeats sorted) ≡ false → AreSettled o straight
  settled up none =
      elim (cases_Bool (merges o.parallel || refuses o.parallel)) [
        | inl some ↦
            let apart : repeats sorted ≡ false = rw some at none in
            settled_by_numbers o straight (rw numbers_are
            (IsDistinct-IsPermutation same_key same_key_flips sorted keyed.keys.items (IsPermutation-sym keyed.keys.items sorted moved) (distinct_keys sorted up apart)))
        | inr all ↦ settled_by_wish o straight all
      ]

  as_many : length sorted ≡ length (arcs_of o.is_directed straight)
  as_many = length_permutation keyed.keys.items sorted moved ∙ sym (length-map keyed.keys.items (arc_in weight)) ∙ ap length are.arcs

  module _ (up : IsNonDecreasing sorted) (none : ((merges o.parallel || refuses o.parallel) && repeats sorted) ≡ false) where
    -- too many arcs are refused
    pub crowded : most_rows < length sorted → IsAnswer (packing_in o es) (Err TooManyEdges)
    crowded many =
        let s = settled up none in
        let more : nat_lt most_rows (length (arcs_of o.is_directed straight)) ≡ true = more_test most_rows (length (arcs_of o.is_directed straight)) (rw (← as_many) many) in
        rw (s.none, s.stay, more) (λ _. refl)

    -- the network is that of the arcs
    pub packed_so : (n : ℕ) (packed : Packed) → n ≡ node_count o.nodes es → length sorted ≤ most_rows → HasArcs n (arcs_in weight sorted) packed.network
        → packed.lines ≡ keyed.lines → packed.dropped_loops ≡ keyed.dropped_loops → packed.merged ≡ 0 → IsAnswer (packing_in o es) (Ok packed)
    packed_so n packed count few has lines dropped merged =
        let s = settled up none in
        let less : nat_lt most_rows (length (arcs_of o.is_directed straight)) ≡ false = few_test most_rows (length (arcs_of o.is_directed straight)) (rw (← as_many) few) in
        let turned : IsPermutation (arcs_of o.is_directed straight) (arcs_in weight sorted) = rw (← are.arcs) (IsPermutation-map (arc_in weight) keyed.keys.items sorted moved) in
        rw (s.none, s.stay, less) (record {
          network = rw (← count) (arcs_moved n (arcs_of o.is_directed straight) (arcs_in weight sorted) packed.network turned has);
          lines = lines ∙ are.lines;
          dropped_loops = omega (arith, dropped, are.straight);
          merged = omega (arith, merged);
        })
