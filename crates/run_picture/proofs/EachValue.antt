-- Each value that occurs in a round of a span has its curve, and no other.
use Rattle.std.proofs.Common.{◌≡◌, ◌∙◌, ◌+◌, ◌<◌, ◌≤◌, ℕ, zero, suc, List, [], ◌∷◌, Bool, true, false, if◌then◌else◌, All, Contains, inl, inr, arith, length, map, refl, slice_index, slice_index_or, subst, sym}
use Rattle.std.proofs.lemmas.Bool.Decides.{nat_tests}
use Rattle.std.proofs.lemmas.List.Elements.{Contains-append_cases, Contains-append_left, Contains-append_right}
use Rattle.std.proofs.lemmas.List.Sums.{length-filter}
use Rattle.std.proofs.lemmas.List.FromFn.{get_or-range_with_len, length-range_with_len}
use Rattle.std.specs.List.{count_by, filter, flat_map, range_with_len}
use Rattle.rule_check.specs.declared.state.State.{State}
use Rattle.rounds_walk.specs.Counts.{AreCounts, has_value}
use Rattle.rounds_plan.specs.Lockstep.{lockstep_states}
use Rattle.run_counts.specs.Rows.{RowView, keys_of}
use Rattle.run_picture.specs.Curves.{EachValueHasItsCurve, nodes_with}
use Rattle.run_picture.proofs.EachPoint.{rounds_are}

abbrev first : ℕ × ℕ → ℕ
first c = c.0

-- a value that is counted has a node
counted_at : (n : ℕ → ℕ) (v : ℕ) (counts : List (ℕ × ℕ)) → All (λ (c : ℕ × ℕ). c.1 ≡ n c.0) counts → All (λ (c : ℕ × ℕ). 1 ≤ c.1) counts → (k : ℕ) → k < length (map first counts)
    → slice_index_or (map first counts) k v ≡ v → 1 ≤ n v
counted_at n v [] each some k inside at = absurd (omega (arith, inside))
counted_at n v (c ∷ counts) each some zero inside at =
    let number : c.1 ≡ n c.0 = each 0 c (omega arith) in
    let one : 1 ≤ c.1 = some 0 c (omega arith) in
    subst (λ (w : ℕ). 1 ≤ n w) at (subst (λ (m : ℕ). 1 ≤ m) number one)
counted_at n v (c ∷ counts) each some (suc k) inside at =
    counted_at n v counts (λ j d below. each (suc j) d (omega (arith, below))) (λ j d below. some (suc j) d (omega (arith, below))) k (omega (arith, inside)) at

-- a state that passes a test, or the others
kept_by : (field v : ℕ) (keys : List ℕ) (s : State) (kept : List State) (b : Bool) → has_value field v s ≡ b → Contains keys (slice_index s.words field) → (1 ≤ length kept → Contains keys v)
    → 1 ≤ length (if b then s ∷ kept else kept) → Contains keys v
kept_by field v keys s kept true is here rest some =
    let same : slice_index s.words field ≡ v = grind (arith, nat_tests, is) in
    subst (Contains keys) same here
kept_by field v keys s kept false is here rest some = rest some

kept_in : (field v : ℕ) (keys : List ℕ) (states : List State) → All (λ (s : State). Contains keys (slice_index s.words field)) states → 1 ≤ length (filter (has_value field v) states)
    → Contains keys v
kept_in field v keys [] all some = absurd (omega (arith, some))
kept_in field v keys (s ∷ states) all some =
    kept_by field v keys s (filter (has_value field v) states) (has_value field v s) refl (all 0 s (omega arith))
    (λ more. kept_in field v keys states (λ k d inside. all (suc k) d (omega (arith, inside))) more) some

-- a value is counted exactly where a node has it
has_node : (field v : ℕ) (states : List State) (counts : List (ℕ × ℕ)) → AreCounts field states counts → Contains (map first counts) v → 1 ≤ count_by (has_value field v) states
has_node field v states counts are found = counted_at (λ (w : ℕ). count_by (has_value field w) states) v counts are.each are.some found.0 found.1 found.2

is_counted : (field v : ℕ) (states : List State) (counts : List (ℕ × ℕ)) → AreCounts field states counts → 1 ≤ count_by (has_value field v) states → Contains (map first counts) v
is_counted field v states counts are some =
    kept_in field v (map first counts) states are.all (subst (λ (n : ℕ). 1 ≤ n) (sym (length-filter (has_value field v) states)) some)

-- ---- in one of the rows

in_some_row : (nodes : ℕ → ℕ) (v : ℕ) (rows : List RowView) → All (λ (row : RowView). Contains (keys_of row) v → 1 ≤ nodes row.round) rows → Contains (flat_map keys_of rows) v
    → (t : ℕ) × Contains (map (λ (row : RowView). row.round) rows) t × (1 ≤ nodes t)
in_some_row nodes v [] each found = absurd (omega (arith, found.1))
in_some_row nodes v (row ∷ rows) each found =
    elim (Contains-append_cases (keys_of row) (flat_map keys_of rows) v found) [
      | inl here ↦ (row.round, (0, omega arith, refl), each 0 row (omega arith) here)
      | inr there ↦ (let behind = in_some_row nodes v rows (λ k d inside. each (suc k) d (omega (arith, inside))) there in
          (behind.0, Contains-append_right (row.round ∷ []) (map (λ (r : RowView). r.round) rows) behind.0 behind.1, behind.2))
    ]

of_row : (nodes : ℕ → ℕ) (v t : ℕ) (rows : List RowView) → All (λ (row : RowView). 1 ≤ nodes row.round → Contains (keys_of row) v) rows → 1 ≤ nodes t → (k : ℕ)
    → k < length (map (λ (row : RowView). row.round) rows) → slice_index_or (map (λ (row : RowView). row.round) rows) k t ≡ t → Contains (flat_map keys_of rows) v
of_row nodes v t [] each some k inside at = absurd (omega (arith, inside))
of_row nodes v t (row ∷ rows) each some zero inside at =
    Contains-append_left (keys_of row) (flat_map keys_of rows) v (each 0 row (omega arith) (subst (λ (u : ℕ). 1 ≤ nodes u) (sym at) some))
of_row nodes v t (row ∷ rows) each some (suc k) inside at =
    Contains-append_right (keys_of row) (flat_map keys_of rows) v (of_row nodes v t rows (λ j d below. each (suc j) d (omega (arith, below))) some k (omega (arith, inside)) at)

-- ---- among the states

range_below : (a n v : ℕ) → Contains (range_with_len a n) v → v < a + n
range_below a n v found =
    let inside : found.0 < n = omega (arith, found.1, length-range_with_len a n) in
    omega (arith, inside, get_or-range_with_len a n found.0 v inside ∙ refl, found.2)

range_has : (n v : ℕ) → v < n → Contains (range_with_len 0 n) v
range_has n v below = (v, omega (arith, below, length-range_with_len 0 n), omega (arith, get_or-range_with_len 0 n v v below))

pub each_value_has_its_curve : EachValueHasItsCurve
each_value_has_its_curve p span field many rows values v counted =
    let are = counted.rows_are in
    let nodes = nodes_with p field v in
    let rounds = rounds_are p span field rows are in
    let first_states = range_with_len 0 many in
    let keys = flat_map keys_of rows in
    let states = λ (t : ℕ). lockstep_states p t (length p.network) in (
      λ there.
          elim (Contains-append_cases first_states keys v ((counted.values_are.each v).0 there)) [
            | inl state ↦ inl (omega (arith, range_below 0 many v state))
            | inr occurs ↦ inr (let found = in_some_row nodes v rows
                (λ k d inside has.
                let row = slice_index_or rows k d in
                subst (λ (f : ℕ). 1 ≤ count_by (has_value f v) (states row.round)) are.of_field
                (has_node are.counting.field v (states row.round) row.counts (are.rows_are.each k d inside).counts has))
                occurs in
                (found.0, subst (λ (ts : List ℕ). Contains ts found.0) rounds found.1, found.2))
          ],
      λ has.
          elim has [
            | inl state ↦ (counted.values_are.each v).1 (Contains-append_left first_states keys v (range_has many v state))
            | inr some ↦ (let at = subst (λ (ts : List ℕ). Contains ts some.0) (sym rounds) some.1 in
                (counted.values_are.each v).1
                (Contains-append_right first_states keys v
                (of_row nodes v some.0 rows
                (λ k d inside one.
                let row = slice_index_or rows k d in
                is_counted are.counting.field v (states row.round) row.counts (are.rows_are.each k d inside).counts
                (subst (λ (f : ℕ). 1 ≤ count_by (has_value f v) (states row.round)) (sym are.of_field) one))
                some.2 at.0 at.1 at.2)))
          ],
    )
