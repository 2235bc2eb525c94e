-- The words of undeclared fields are 0.
use Rattle.std.proofs.Common.{◌≡◌, ℕ, zero, suc, ◌-◌, ◌≤◌, List, [], ◌∷◌, ◌++◌, length, refl, ◌∙◌, arith, take, replicate, map}
use Rattle.std.specs.Prelude.{slice_index}
use Rattle.rule_check.specs.declared.state.State.{State}
use Rattle.rule_check.specs.declared.state.Sums.{Sums}
use Rattle.rule_check.specs.declared.parts.Field.{Field}
use Rattle.rule_check.specs.Value.{Rules, Here, names_of, updated, cleared, next_word, next_at, opening_of, alone}
use Rattle.rule_check.specs.Machine.{frame}
use Rattle.rule_check.specs.Gathering.{finished, finished_word, numbered}
use Rattle.rule_check.proofs.Lists.{map_length}
use Rattle.rule_check.proofs.Lists.{name_count}

-- past the words that change, each stays
updated_past : {A : Type 0} (change : A → ℕ → ℕ) (xs : List A) (ws : List ℕ) (k : ℕ) → length xs ≤ k → slice_index (updated change xs ws) k ≡ slice_index ws k
updated_past change [] ws k past = refl
updated_past change (x ∷ xs) [] k past = refl
updated_past change (x ∷ xs) (w ∷ ws) zero past = absurd (omega arith)
updated_past change (x ∷ xs) (w ∷ ws) (suc k) past = updated_past change xs ws k (omega arith)

zero_at : (n k : ℕ) → slice_index (replicate n 0) k ≡ 0
zero_at zero k = refl
zero_at (suc n) zero = refl
zero_at (suc n) (suc k) = zero_at n k

zero_past : (n m : ℕ) (ws : List ℕ) (k : ℕ) → n ≤ k → slice_index (take n ws ++ replicate m 0) k ≡ 0
zero_past zero m ws k past = zero_at m k
zero_past (suc n) m [] k past = zero_at m k
zero_past (suc n) m (w ∷ ws) zero past = absurd (omega arith)
zero_past (suc n) m (w ∷ ws) (suc k) past = zero_past n m ws k (omega arith)

cleared_rest : (fields : List Field) (change : List ℕ → ℕ → ℕ) (ws : List ℕ) (k : ℕ) → length fields ≤ k → slice_index (updated change (map (λ f. f.name) fields) (cleared (length fields) ws)) k ≡ 0
cleared_rest fields change ws k past =
    updated_past change (map (λ f. f.name) fields) (cleared (length fields) ws) k (omega (arith, name_count fields))
    ∙ zero_past (length fields) (8 - length fields) ws k past

pub rest_of_next : (rules : Rules) (here : Here) (k : ℕ) → length rules.fields ≤ k → slice_index (next_at rules here).words k ≡ 0
rest_of_next rules here k past = cleared_rest rules.fields (next_word rules here) here.own.words k past

pub rest_of_finished : (rules : Rules) (round id degree : ℕ) (own : State) (sums : Sums) (k : ℕ) → length rules.fields ≤ k → slice_index (finished rules round id degree own sums).words k ≡ 0
rest_of_finished rules round id degree own sums k past =
    cleared_rest rules.fields (finished_word (names_of rules) (frame id degree round own (alone id own) sums.words) (numbered 0 rules.nexts)) own.words k past

pub rest_of_opening : (rules : Rules) (k : ℕ) → length rules.fields ≤ k → slice_index (opening_of rules).words k ≡ 0
rest_of_opening rules k past =
    updated_past (λ v w. v) (map (λ f. f.opening) rules.fields) (replicate 8 0) k (omega (arith, map_length (λ f. f.opening) rules.fields)) ∙ zero_at 8 k
