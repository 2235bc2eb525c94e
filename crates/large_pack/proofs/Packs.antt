-- What edges are packed into.
use Rattle.std.proofs.Common.{◌≡◌, ◌≢◌, ◌∙◌, ℕ, ◌-◌, ◌<◌, ◌≤◌, ◌==◌, Bool, true, false, not, ◌||◌, List, [], ◌∷◌, ◌++◌, map, length, nat_lt, refl, sym, ap, Option, Some, None, Result, Ok, Err, arith, inl, inr}
use Rattle.std.proofs.lemmas.Bool.{cases_Bool}
use Rattle.std.proofs.lemmas.Bool.Decides.{nat_tests}
use Rattle.std.specs.List.{filter, flat_map, AllByRecursion}
use Rattle.std.specs.Result.{IsErrAnd}
use Rattle.std.specs.List.Sorted.{IsPermutation}
use Rattle.std.proofs.lemmas.List.{length-map}
use Rattle.std.proofs.lemmas.List.Elements.{All-from_recursion, recursion_from_All, All-filter}
use Rattle.std.proofs.lemmas.List.Filters.{length-filter_both}
use Rattle.std.proofs.lemmas.List.Sorted.{All-permutation, IsPermutation-map, IsPermutation-trans, length_permutation}
use Rattle.link_net.specs.Arcs.{Arc}
use Rattle.link_net.specs.Limits.{most_rows}
use Rattle.link_net.specs.Links.{AllWithin}
use Rattle.link_net.specs.Neighbours.{Neighbours, row}
use Rattle.large_pack.specs.declared.edge_line.EdgeLine.{EdgeLine}
use Rattle.large_pack.specs.declared.options.PackOptions.{PackOptions}
use Rattle.large_pack.specs.declared.options.SelfLoops.{SelfLoops}
use Rattle.large_pack.specs.declared.options.SelfLoops.TheVariants.{Refuse as RefuseLoops, Drop as DropLoops, Keep as KeepLoops}
use Rattle.large_pack.specs.declared.options.Parallel.{Parallel}
use Rattle.large_pack.specs.declared.fault.PackFault.{PackFault}
use Rattle.large_pack.specs.declared.fault.PackFault.TheVariants.{TooManyEdges, Memory}
use Rattle.large_pack.specs.declared.ranked.Ranked.{Ranked}
use Rattle.large_pack.specs.declared.pack.Packed.{Packed}
use Rattle.large_pack.specs.Rows.{ends_from, HasArcs}
use Rattle.large_pack.specs.Sound.{node_count}
use Rattle.large_pack.specs.Packing.{straight_edges, kept_edges, merges, arcs_of, repeat_fault, packing_in, Packing, IsAnswer}
use Rattle.large_pack.specs.Ranks.{ranked, is_beaten, kept_ranked, repeat_ranked, straight_ranked, ranked_arcs, LinesRise, AreTied, RankedWithin}
use Rattle.large_pack.proofs.Permuting.{flat_map_moved, filter_moved}
use Rattle.large_pack.proofs.Mapped.{arcs_permuted, kept_mapped, straight_mapped, repeat_mapped}

-- ---- ends

arcs_of_one : (n : ℕ) (dir : Bool) (e : Ranked) (later : List Arc) → (e.first < n) × (e.second < n) → AllWithin n later → AllWithin n (ranked_arcs dir e ++ later)
arcs_of_one n dir e later within rest =
    elim (cases_Bool (dir || e.first == e.second)) [
      | inl one ↦ rw one (within, rest)
      | inr two ↦ rw two (within, ((within.1, within.0), rest))
    ]

-- arcs of edges within n lie within n
pub arcs_within : (n : ℕ) (dir : Bool) (es : List Ranked) → RankedWithin n es → AllWithin n (flat_map (ranked_arcs dir) es)
arcs_within n dir [] within = tt
arcs_within n dir (e ∷ es) within = arcs_of_one n dir e (flat_map (ranked_arcs dir) es) within.0 (arcs_within n dir es within.1)

abbrev EndsBelow : ℕ → Ranked → Type 0
EndsBelow n e = (e.first < n) × (e.second < n)

within_filter : (n : ℕ) (p : Ranked → Bool) (es : List Ranked) → RankedWithin n es → RankedWithin n (filter p es)
within_filter n p es within = recursion_from_All (EndsBelow n) (filter p es) (All-filter p (EndsBelow n) es (All-from_recursion (EndsBelow n) es within))

within_moved : (n : ℕ) (es fs : List Ranked) → IsPermutation es fs → RankedWithin n es → RankedWithin n fs
within_moved n es fs moved within = recursion_from_All (EndsBelow n) fs (All-permutation (EndsBelow n) es fs moved (All-from_recursion (EndsBelow n) es within))

within_kept : (n : ℕ) (parallel : Parallel) (es : List Ranked) → RankedWithin n es → RankedWithin n (kept_ranked parallel es)
within_kept n parallel es within =
    elim (cases_Bool (merges parallel)) [
      | inl some ↦ rw some (within_filter n (λ e. not (is_beaten es e)) es within)
      | inr none ↦ rw none within
    ]

within_straight : (n : ℕ) (self_loops : SelfLoops) (es : List Ranked) → RankedWithin n es → RankedWithin n (straight_ranked self_loops es)
within_straight n RefuseLoops es within = within
within_straight n KeepLoops es within = within
within_straight n DropLoops es within = within_filter n (λ e. not (e.first == e.second)) es within

-- edges that stay are within n
pub settled_within : (n : ℕ) (self_loops : SelfLoops) (parallel : Parallel) (es straight kept : List Ranked) → RankedWithin n es → straight ≡ straight_ranked self_loops es → IsPermutation (kept_ranked parallel straight) kept → RankedWithin n kept
settled_within n self_loops parallel es straight kept within is moved =
    within_moved n (kept_ranked parallel straight) kept moved (within_kept n parallel straight (rw is (within_straight n self_loops es within)))

-- ---- lines

later_filter : (k : ℕ) (p : Ranked → Bool) (es : List Ranked) → AllByRecursion (λ d. k < d.line) es → AllByRecursion (λ d. k < d.line) (filter p es)
later_filter k p es up = recursion_from_All (λ (d : Ranked). k < d.line) (filter p es) (All-filter p (λ (d : Ranked). k < d.line) es (All-from_recursion (λ (d : Ranked). k < d.line) es up))

rise_filter : (p : Ranked → Bool) (es : List Ranked) → LinesRise es → LinesRise (filter p es)
rise_filter p [] up = tt
rise_filter p (e ∷ es) up =
    elim (cases_Bool (p e)) [
      | inl keeps ↦ rw keeps (later_filter e.line p es up.0, rise_filter p es up.1)
      | inr drops ↦ rw drops (rise_filter p es up.1)
    ]

-- lines still rise where self-loops are left out
pub straight_rise : (self_loops : SelfLoops) (es : List Ranked) → LinesRise es → LinesRise (straight_ranked self_loops es)
straight_rise RefuseLoops es up = up
straight_rise KeepLoops es up = up
straight_rise DropLoops es up = rise_filter (λ e. not (e.first == e.second)) es up

ranks_filter : (p : Ranked → Bool) (es : List Ranked) → AreTied es → AreTied (filter p es)
ranks_filter p es tied = recursion_from_All (λ (e : Ranked). e.rank ≡ 0) (filter p es) (All-filter p (λ (e : Ranked). e.rank ≡ 0) es (All-from_recursion (λ (e : Ranked). e.rank ≡ 0) es tied))

-- and ranks tie as they did
pub straight_tied : (self_loops : SelfLoops) (es : List Ranked) → AreTied es → AreTied (straight_ranked self_loops es)
straight_tied RefuseLoops es tied = tied
straight_tied KeepLoops es tied = tied
straight_tied DropLoops es tied = ranks_filter (λ e. not (e.first == e.second)) es tied

-- ---- lengths

filter_shorter : {X : Type 0} (p : X → Bool) (xs : List X) → length (filter p xs) ≤ length xs
filter_shorter p xs = omega (arith, length-filter_both p (λ x. not (p x)) (λ x. refl) xs)

pub straight_shorter : (self_loops : SelfLoops) (es : List Ranked) → length (straight_ranked self_loops es) ≤ length es
straight_shorter RefuseLoops es = omega arith
straight_shorter KeepLoops es = omega arith
straight_shorter DropLoops es = filter_shorter (λ e. not (e.first == e.second)) es

pub kept_shorter : (parallel : Parallel) (es : List Ranked) → length (kept_ranked parallel es) ≤ length es
kept_shorter parallel es =
    elim (cases_Bool (merges parallel)) [
      | inl some ↦ rw some (filter_shorter (λ e. not (is_beaten es e)) es)
      | inr none ↦ rw none (omega arith)
    ]

-- ---- the whole

-- a network of arcs is one of these arcs in another order
pub arcs_moved : (n : ℕ) (arcs given : List Arc) (network : Neighbours) → IsPermutation arcs given → HasArcs n given network → HasArcs n arcs network
arcs_moved n arcs given network moved has = record {
  count = has.count;
  rows = λ u low.
      IsPermutation-trans (ends_from u arcs) (ends_from u given) (row network u)
      (IsPermutation-map (λ (a : Arc). (a.1, a.2)) (filter (λ a. a.0 == u) arcs) (filter (λ a. a.0 == u) given) (filter_moved (λ (a : Arc). a.0 == u) arcs given moved)) (has.rows u low);
  rising = has.rising;
}

pub more_test : (n m : ℕ) → n < m → nat_lt n m ≡ true
more_test n m h = grind (arith, nat_tests)

pub few_test : (n m : ℕ) → m ≤ n → nat_lt n m ≡ false
few_test n m h = grind (arith, nat_tests)

err_answers : (options : PackOptions) (es : List EdgeLine) (fault : PackFault) → (fault ≢ Memory → packing_in options es ≡ Err fault) → IsAnswer (packing_in options es) (Err fault)
err_answers options es fault h = at (packing_in options es) h where
  at : (defined : Result Packing PackFault) → (fault ≢ Memory → defined ≡ Err fault) → IsAnswer defined (Err fault)
  at (Ok packing) g = g
  at (Err other) g = g

-- a fault that is passed on
pub answers_by_fault : (defined : Result Packing PackFault) (fault : PackFault) (r : Result Packed PackFault) → IsErrAnd r (λ e. e ≡ fault) → IsAnswer defined (Err fault) → IsAnswer defined r
answers_by_fault defined fault (Ok packed) is h = absurd is
answers_by_fault defined fault (Err other) is h = rw is h

module _ (options : PackOptions) (es : List EdgeLine) (n : ℕ) (given straight kept : List Ranked) (are : given ≡ map (ranked options) es) (is : straight ≡ straight_ranked options.self_loops given) where
  straight_are : straight ≡ map (ranked options) (straight_edges options.self_loops es)
  straight_are = is ∙ ap (straight_ranked options.self_loops) are ∙ straight_mapped options options.self_loops es

  repeats_are : (found : Option PackFault) → found ≡ repeat_ranked options.parallel straight → repeat_fault options (straight_edges options.self_loops es) ≡ found
  repeats_are found h = sym (h ∙ ap (repeat_ranked options.parallel) straight_are ∙ repeat_mapped options (straight_edges options.self_loops es))

  -- an edge that repeats another is refused
  pub repeat_answers : (fault : PackFault) → Some fault ≡ repeat_ranked options.parallel straight → IsAnswer (packing_in options es) (Err fault)
  repeat_answers fault h = err_answers options es fault (λ _. rw (repeats_are (Some fault) h) refl)

  module _ (none : None ≡ repeat_ranked options.parallel straight) (moved : IsPermutation (kept_ranked options.parallel straight) kept) where
    abbrev stays : List EdgeLine
    stays = kept_edges options (straight_edges options.self_loops es)

    kept_are : IsPermutation (map (ranked options) stays) kept
    kept_are = rw (ap (kept_ranked options.parallel) straight_are ∙ kept_mapped options (straight_edges options.self_loops es)) at moved

    arcs_are : IsPermutation (arcs_of options.is_directed stays) (flat_map (ranked_arcs options.is_directed) kept)
    arcs_are =
        IsPermutation-trans (arcs_of options.is_directed stays) (flat_map (ranked_arcs options.is_directed) (map (ranked options) stays)) (flat_map (ranked_arcs options.is_directed) kept)
        (arcs_permuted options stays) (flat_map_moved (ranked_arcs options.is_directed) (map (ranked options) stays) kept kept_are)

    as_many : length (flat_map (ranked_arcs options.is_directed) kept) ≡ length (arcs_of options.is_directed stays)
    as_many = length_permutation (arcs_of options.is_directed stays) (flat_map (ranked_arcs options.is_directed) kept) arcs_are

    -- too many arcs are refused
    pub crowd_answers : (fault : PackFault) → (fault ≢ Memory → fault ≡ TooManyEdges) → (fault ≢ Memory → most_rows < length (flat_map (ranked_arcs options.is_directed) kept)) → IsAnswer (packing_in options es) (Err fault)
    crowd_answers fault kind many =
        err_answers options es fault (λ h.
        let more : nat_lt most_rows (length (arcs_of options.is_directed stays)) ≡ true = more_test most_rows (length (arcs_of options.is_directed stays)) (rw (← as_many) (many h)) in
        rw (repeats_are None none, more, kind h) refl)

    lines_count : length given ≡ length es
    lines_count = ap length are ∙ length-map es (ranked options)

    straight_count : length straight ≡ length (straight_edges options.self_loops es)
    straight_count = ap length straight_are ∙ length-map (straight_edges options.self_loops es) (ranked options)

    kept_count : length kept ≡ length stays
    kept_count = length_permutation (map (ranked options) stays) kept kept_are ∙ length-map stays (ranked options)

    -- the network is that of the arcs
    pub network_answers : (packed : Packed) → n ≡ node_count options.nodes es → length (flat_map (ranked_arcs options.is_directed) kept) ≤ most_rows → HasArcs n (flat_map (ranked_arcs options.is_directed) kept) packed.network
        → packed.lines ≡ length given → packed.dropped_loops ≡ length given - length straight → packed.merged ≡ length straight - length kept → IsAnswer (packing_in options es) (Ok packed)
    network_answers packed count few has lines dropped merged =
        let less : nat_lt most_rows (length (arcs_of options.is_directed stays)) ≡ false = few_test most_rows (length (arcs_of options.is_directed stays)) (rw (← as_many) few) in
        rw (repeats_are None none, less) (record {
          network = rw (← count) (arcs_moved n (arcs_of options.is_directed stays) (flat_map (ranked_arcs options.is_directed) kept) packed.network arcs_are has);
          lines = lines ∙ lines_count;
          dropped_loops = rw (← lines_count, ← straight_count) dropped;
          merged = rw (← straight_count, ← kept_count) merged;
        })
