-- What stands under a value.
use Rattle.std.proofs.Common.{◌≡◌, ◌∙◌, ◌⊎◌, ◌<◌, ◌==◌, ℕ, zero, suc, List, [], ◌∷◌, Bool, true, false, if◌then◌else◌, All, Contains, inl, inr, ap, arith, length, map, refl, slice_index, slice_index_or, subst, sym}
use Rattle.std.proofs.lemmas.Bool.Decides.{nat_tests}
use Rattle.std.proofs.lemmas.List.Sums.{length-filter}
use Rattle.std.specs.List.{count_by, filter}
use Rattle.rule_check.specs.declared.state.State.{State}
use Rattle.rounds_walk.specs.Counts.{has_value}
use Rattle.run_counts.specs.Counts.{CellsAreCounts}
use Rattle.run_counts.specs.Rows.{count_in}

-- the number beside a value is its number, or the value is not there
abbrev Found : (ℕ → ℕ) → ℕ → List (ℕ × ℕ) → Type 0
Found n v counts = (count_in counts v ≡ n v) ⊎ ((count_in counts v ≡ 0) × (Contains (map (λ (c : ℕ × ℕ). c.0) counts) v → ⊥))

other_at : (x v : ℕ) (xs : List ℕ) (k : ℕ) → (x ≡ v → ⊥) → (Contains xs v → ⊥) → k < length (x ∷ xs) → slice_index_or (x ∷ xs) k v ≡ v → ⊥
other_at x v xs zero first rest inside at = first at
other_at x v xs (suc k) first rest inside at = rest (k, omega (arith, inside), at)

behind : (n : ℕ → ℕ) (v : ℕ) (c : ℕ × ℕ) (counts : List (ℕ × ℕ)) → (c.0 == v) ≡ false → Found n v counts → Found n v (c ∷ counts)
behind n v c counts is (inl e) = inl (ap (λ (b : Bool). if b then c.1 else count_in counts v) is ∙ e)
behind n v c counts is (inr e) =
    let other : c.0 ≡ v → ⊥ = λ same. absurd (grind (arith, nat_tests, is, same)) in
    inr (
      ap (λ (b : Bool). if b then c.1 else count_in counts v) is ∙ e.0,
      λ found. other_at c.0 v (map (λ (d : ℕ × ℕ). d.0) counts) found.0 other e.1 found.1 found.2,
    )

here : (n : ℕ → ℕ) (v : ℕ) (c : ℕ × ℕ) (counts : List (ℕ × ℕ)) (b : Bool) → (c.0 == v) ≡ b → c.1 ≡ n c.0 → Found n v counts → Found n v (c ∷ counts)
here n v c counts true is one rest =
    let same : c.0 ≡ v = grind (arith, nat_tests, is) in
    inl (ap (λ (b : Bool). if b then c.1 else count_in counts v) is ∙ one ∙ ap n same)
here n v c counts false is one rest = behind n v c counts is rest

found_in : (n : ℕ → ℕ) (v : ℕ) (counts : List (ℕ × ℕ)) → All (λ (c : ℕ × ℕ). c.1 ≡ n c.0) counts → Found n v counts
found_in n v [] each = inr (refl, λ found. absurd (omega (arith, found.1)))
found_in n v (c ∷ counts) each =
    here n v c counts (c.0 == v) refl (each 0 c (omega arith)) (found_in n v counts (λ k d inside. each (suc k) d (omega (arith, inside))))

none_kept : (field v : ℕ) (states : List State) → All (λ (s : State). slice_index s.words field ≡ v → ⊥) states → length (filter (has_value field v) states) ≡ 0
none_kept field v [] none = refl
none_kept field v (s ∷ states) none =
    let other = none 0 s (omega arith) in
    let test : has_value field v s ≡ false = grind (arith, nat_tests, other) in
    let kept = filter (has_value field v) states in
    ap (λ (b : Bool). length (if b then s ∷ kept else kept)) test ∙ none_kept field v states (λ k d inside. none (suc k) d (omega (arith, inside)))

-- where none of the states has the value, the number of those that have it is 0
none_counted : (field v : ℕ) (states : List State) → All (λ (s : State). slice_index s.words field ≡ v → ⊥) states → count_by (has_value field v) states ≡ 0
none_counted field v states none = sym (length-filter (has_value field v) states) ∙ none_kept field v states none

pub cells_are_counts : CellsAreCounts
cells_are_counts counting c row v is =
    let field = counting.field in
    let number = λ (w : ℕ). count_by (has_value field w) c.states in
    elim (found_in number v row.counts is.counts.each) [
      | inl e ↦ e
      | inr e ↦ e.0 ∙ sym (none_counted field v c.states (λ k d inside same. e.1 (subst (λ (w : ℕ). Contains (map (λ (d : ℕ × ℕ). d.0) row.counts) w) same (is.counts.all k d inside))))
    ]
