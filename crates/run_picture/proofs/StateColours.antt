-- States whose colours do not hang on which of them occur.
use Rattle.std.proofs.Common.{◌≡◌, ◌≢◌, ◌∙◌, ◌<◌, ◌≤◌, ◌⊎◌, ◌==◌, ◌||◌, ◌+◌, ℕ, zero, suc, List, [], ◌∷◌, Bool, true, false, All, if◌then◌else◌, ap, arith, inl, inr, length, refl, slice_index_or, subst, sym, take}
use Rattle.std.proofs.lemmas.Bool.Decides.{nat_tests}
use Rattle.std.specs.List.{range_with_len}
use Rattle.run_picture.specs.Chosen.{StylesView}
use Rattle.run_picture.specs.Keys.{blank_key, is_among, key_from, key_of, state_key, with_cell}
use Rattle.run_picture.specs.Shades.{IsState, KeyView, class_of, no_value, state_count}
use Rattle.run_picture.proofs.Told.{below, cell_by, comes, grown, marked, or_right, put, same_number}

-- the same key, but for whether a cell has none
record IsSame (key other : KeyView) : Type 0 where
  pub styles : other.styles ≡ key.styles
  pub values : other.values ≡ key.values
  pub greatest : other.greatest ≡ key.greatest

-- what the class of a value follows from
abbrev class_with : StylesView → List ℕ → ℕ → ℕ → ℕ
class_with styles values greatest v = class_of (record { styles = styles; values = values; greatest = greatest; none = false }) v

same_class : (key other : KeyView) (v : ℕ) → IsSame key other → class_of other v ≡ class_of key v
same_class key other v same =
    ap (λ (s : StylesView). class_with s other.values other.greatest v) same.styles
    ∙ ap (λ (vs : List ℕ). class_with key.styles vs other.greatest v) same.values
    ∙ ap (λ (g : ℕ). class_with key.styles key.values g v) same.greatest

take_whole : (n : ℕ) (xs : List ℕ) → length xs ≤ n → take n xs ≡ xs
take_whole zero [] few = refl
take_whole zero (x ∷ xs) few = absurd (omega (arith, few))
take_whole (suc n) [] few = refl
take_whole (suc n) (x ∷ xs) few = ap (λ (ys : List ℕ). x ∷ ys) (take_whole n xs (omega (arith, few)))

-- a cell that is known: it says that there is none, or its value is there already
abbrev IsKnown : KeyView → ℕ → Type 0
IsKnown key c = ((c == no_value) ≡ true) ⊎ ((is_among key.values c ≡ true) × (c ≤ key.greatest))

marked_same : (key : KeyView) → IsSame key (marked key)
marked_same key = record { styles = refl; values = refl; greatest = refl }

grown_same : (key : KeyView) (c : ℕ) → length key.values ≤ 8 → is_among key.values c ≡ true → c ≤ key.greatest → IsSame key (grown key c)
grown_same key c few there small = record {
  styles = refl;
  values =
      ap (λ (b : Bool). take 9 (if b then key.values else put key.values c)) there ∙ take_whole 9 key.values (omega (arith, few));
  greatest = omega (arith, small);
}

cell_same : (key : KeyView) (c : ℕ) → length key.values ≤ 8 → IsKnown key c → IsSame key (with_cell key c)
cell_same key c few (inl none) = subst (λ (b : Bool). IsSame key (if b then marked key else grown key c)) (sym none) (marked_same key)
cell_same key c few (inr there) = cell_by (IsSame key) key c (c == no_value) (marked_same key) (grown_same key c few there.0 there.1)

known_too : (key other : KeyView) (c : ℕ) → IsSame key other → IsKnown key c → IsKnown other c
known_too key other c same (inl none) = inl none
known_too key other c same (inr there) =
    inr (subst (λ (vs : List ℕ). is_among vs c ≡ true) (sym same.values) there.0, omega (arith, there.1, same.greatest))

joined : (key other last : KeyView) → IsSame key other → IsSame other last → IsSame key last
joined key other last one two = record { styles = two.styles ∙ one.styles; values = two.values ∙ one.values; greatest = two.greatest ∙ one.greatest }

cells_same : (cells : List ℕ) (key other : KeyView) → length key.values ≤ 8 → IsSame key other → All (IsKnown key) cells → IsSame key (key_from other cells)
cells_same [] key other few same known = same
cells_same (c ∷ cells) key other few same known =
    let few_too : length other.values ≤ 8 = omega (arith, few, ap (λ (vs : List ℕ). length vs) same.values) in
    let step = cell_same other c few_too (known_too key other c same (known 0 c (omega arith))) in
    cells_same cells key (with_cell other c) few (joined key other (with_cell other c) same step) (λ k d inside. known (suc k) d (omega (arith, inside)))

-- a state is among the states
pub state_among : (a n v : ℕ) → a ≤ v → v < a + n → is_among (range_with_len a n) v ≡ true
state_among a zero v late inside = absurd (omega (arith, late, inside))
state_among a (suc n) v late inside = among_by (a == v) refl (λ other. state_among (a + 1) n v (omega (arith, late, other)) (omega (arith, inside))) where
  among_by : (b : Bool) → (a == v) ≡ b → (a ≢ v → is_among (range_with_len (a + 1) n) v ≡ true) → is_among (range_with_len a (suc n)) v ≡ true
  among_by true is rest = ap (λ (b : Bool). b || is_among (range_with_len (a + 1) n) v) is
  among_by false is rest =
      let other : a ≢ v = grind (arith, nat_tests, is) in
      or_right (a == v) (is_among (range_with_len (a + 1) n) v) (rest other)

known_state : (styles : StylesView) (v : ℕ) → length (state_key styles).values ≤ 8 → IsState styles v → IsKnown (state_key styles) v
known_state styles v few (inl state) =
    let states = range_with_len 0 (state_count styles) in
    let there = state_among 0 (state_count styles) v (omega arith) (omega (arith, state)) in
    let some : v ≢ no_value = λ none. omega (arith, none, state) in
    inr (comes states (blank_key styles) v there some (omega arith) few, below states (blank_key styles) v there some)
known_state styles v few (inr none) = inl (ap (λ (w : ℕ). w == no_value) none ∙ same_number no_value)

pub states_told : (styles : StylesView) (cells others : List ℕ) (v : ℕ) → length (state_key styles).values ≤ 8 → All (IsState styles) cells → All (IsState styles) others
    → class_of (key_of styles cells) v ≡ class_of (key_of styles others) v
states_told styles cells others v few first second =
    let key = state_key styles in
    let start : IsSame key key = record { styles = refl; values = refl; greatest = refl } in
    let known = λ (cs : List ℕ) (all : All (IsState styles) cs) (k d : ℕ) (inside : k < length cs). known_state styles (slice_index_or cs k d) few (all k d inside) in
    same_class key (key_of styles cells) v (cells_same cells key key few start (known cells first))
    ∙ sym (same_class key (key_of styles others) v (cells_same others key key few start (known others second)))
