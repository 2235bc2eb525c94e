-- One element that is set.
use Rattle.std.proofs.Common.{◌≡◌, ◌<◌, ◌≤◌, ◌+◌, ◌⊎◌, inl, inr, ℕ, List, length, sym, ap, subst, ◌∙◌, slice_index_or, Bool, false, arith}
use Rattle.std.specs.Prelude.{slice_set}
use Rattle.std.proofs.lemmas.Bool.{cases_eq, cases_lt}
use Rattle.std.proofs.lemmas.List.{get_or-set_same, get_or-set_other}
use Rattle.rounds_blocks.specs.Nears.{Sleeps}

cases_of : {X : Type 0} (xs : List X) (v : ℕ) (b d : X) (u : ℕ) → v < length xs → ((u ≡ v) ⊎ (u ≡ v → ⊥))
    → ((u ≡ v) × (slice_index_or (slice_set xs v b) u d ≡ b)) ⊎ ((u ≡ v → ⊥) × (slice_index_or (slice_set xs v b) u d ≡ slice_index_or xs u d))
cases_of {X} xs v b d u inside (inl same) = inl (same, ap (λ (i : ℕ). slice_index_or (slice_set xs v b) i d) same ∙ get_or-set_same xs v b d inside)
cases_of {X} xs v b d u inside (inr apart) = inr (apart, get_or-set_other xs v u b d apart)

-- the element that is set has its new value, any other one its old one
pub set_cases : {X : Type 0} (xs : List X) (v : ℕ) (b d : X) (u : ℕ) → v < length xs
    → ((u ≡ v) × (slice_index_or (slice_set xs v b) u d ≡ b)) ⊎ ((u ≡ v → ⊥) × (slice_index_or (slice_set xs v b) u d ≡ slice_index_or xs u d))
set_cases {X} xs v b d u inside = cases_of xs v b d u inside (cases_eq u v)

module _ (marks : List Bool) (i : ℕ) (b : Bool) (inside : i < length marks) where
  other_mark : (j : ℕ) → j < i → slice_index_or (slice_set marks i b) j false ≡ slice_index_or marks j false
  other_mark j h = get_or-set_other marks i j b false (λ same. absurd (omega (arith, h, same)))

  own_mark : (j : ℕ) → j ≡ i → slice_index_or (slice_set marks i b) j false ≡ b
  own_mark j same = ap (λ (k : ℕ). slice_index_or (slice_set marks i b) k false) same ∙ get_or-set_same marks i b false inside

  holds_by : (P : ℕ → Type 0) → ((j : ℕ) → j < i → Sleeps marks j → P j) → (b ≡ false → P i) → (j : ℕ) → j < i + 1 → Sleeps (slice_set marks i b) j → ((j < i) ⊎ (i ≤ j)) → P j
  holds_by P before here j high is (inl h) = before j h (sym (other_mark j h) ∙ is)
  holds_by P before here j high is (inr h) =
      let same : j ≡ i = omega (arith, h, high) in
      subst P (sym same) (here (sym (own_mark j same) ∙ is))

  -- what holds of the unmarked ones, one more
  pub holds_more : (P : ℕ → Type 0) → ((j : ℕ) → j < i → Sleeps marks j → P j) → (b ≡ false → P i) → (j : ℕ) → j < i + 1 → Sleeps (slice_set marks i b) j → P j
  holds_more P before here j high is = holds_by P before here j high is (cases_lt j i)

  sleeps_by : b ≡ false → ((j : ℕ) → j < i → Sleeps marks j) → (j : ℕ) → j < i + 1 → ((j < i) ⊎ (i ≤ j)) → Sleeps (slice_set marks i b) j
  sleeps_by not before j high (inl h) = other_mark j h ∙ before j h
  sleeps_by not before j high (inr h) = own_mark j (omega (arith, h, high)) ∙ not

  -- none is marked, of one more
  pub sleeps_more : b ≡ false → ((j : ℕ) → j < i → Sleeps marks j) → (j : ℕ) → j < i + 1 → Sleeps (slice_set marks i b) j
  sleeps_more not before j high = sleeps_by not before j high (cases_lt j i)
