-- What follows from the key of a picture.
use Rattle.std.proofs.Common.{◌≡◌, ◌↔◌, ◌<◌, ◌≤◌, ◌+◌, ◌==◌, ℕ, zero, suc, List, [], ◌∷◌, Bool, false, true, if◌then◌else◌, arith, inl, inr, length, slice_index, subst, sym, take}
use Rattle.std.proofs.lemmas.Bool.{or_cases}
use Rattle.std.proofs.lemmas.Bool.Decides.{nat_tests}
use Rattle.std.proofs.lemmas.List.Elements.{All-contains}
use Rattle.std.proofs.lemmas.List.FromFn.{length-range_with_len}
use Rattle.std.specs.List.{insert, range_with_len}
use Rattle.run_picture.specs.Chosen.{StylesView}
use Rattle.run_picture.specs.Keys.{blank_key, is_among, key_from, key_of, state_key, with_cell, with_value}
use Rattle.run_picture.specs.Shades.{EachPictureHasAKey, KeyView, SameClassSameValue, SameColourSameValue, StatesKeepTheirColours, ValuesLieBetween, class_of, fill_of, no_value, rank, state_count}
use Rattle.run_picture.specs.Steps.{ScalesAreWide}
use Rattle.run_picture.proofs.Fills.{colours_told}
use Rattle.run_picture.proofs.OneKey.{among_of, contained, is_key, of_key, rises}
use Rattle.run_picture.proofs.StateColours.{states_told}
use Rattle.run_picture.proofs.Told.{Rising, cell_by, classes_told, or_left, or_right, put, rising_least, same_number, take_rising}

pub each_picture_has_a_key : EachPictureHasAKey
each_picture_has_a_key styles cells = (key_of styles cells, is_key styles cells)

least_first : (a : ℕ) (xs : List ℕ) (v : ℕ) → Rising a xs → is_among xs v ≡ true → slice_index (take 9 xs) 0 ≤ v
least_first a [] v rising has = absurd (let e : false ≡ true = has in cc)
least_first a (x ∷ xs) v rising has = rising_least x v (x ∷ xs) (omega arith, rising.1) has

pub values_lie_between : ValuesLieBetween
values_lie_between styles cells key v is shown =
    let there = (is.each v).1 shown in
    let rising = rises 0 is.shown is.rising (λ _. omega arith) in
    (subst (λ (vs : List ℕ). slice_index vs 0 ≤ v) (sym is.least) (least_first 0 is.shown v rising (among_of is.shown v there)), All-contains (λ (w : ℕ). w ≤ key.greatest) is.shown v is.below there)

pub same_class_same_value : SameClassSameValue
same_class_same_value styles cells key v w is few among_v among_w =
    of_key (λ (k : KeyView). length k.values ≤ 8 → (class_of k v ≡ class_of k w) ↔ (v ≡ w)) styles cells key is (λ all. classes_told styles cells v w all among_v among_w) few

pub same_colour_same_value : SameColourSameValue
same_colour_same_value styles cells key v w is few own_v own_w among_v among_w =
    of_key (λ (k : KeyView). length k.values ≤ 8 → (fill_of k (class_of k v) ≡ fill_of k (class_of k w)) ↔ (v ≡ w)) styles cells key is
    (λ all. colours_told styles cells v w all own_v own_w among_v among_w) few

-- ---- how far the values of a scale reach

take_among : (n : ℕ) (xs : List ℕ) (v : ℕ) → is_among (take n xs) v ≡ true → is_among xs v ≡ true
take_among zero xs v has = absurd (let e : false ≡ true = has in cc)
take_among (suc n) [] v has = has
take_among (suc n) (x ∷ xs) v has =
    elim (or_cases (x == v) (is_among (take n xs) v) has) [
      | inl here ↦ or_left (x == v) (is_among xs v) here
      | inr later ↦ or_right (x == v) (is_among xs v) (take_among n xs v later)
    ]

-- rising numbers reach at least as far as they are many
rising_far : (a : ℕ) (xs : List ℕ) (most : ℕ) → Rising a xs → ((v : ℕ) → is_among xs v ≡ true → v ≤ most) → 0 < length xs → slice_index xs 0 + length xs ≤ most + 1
rising_far a [] most rising below some = absurd (omega (arith, some))
rising_far a (x ∷ []) most rising below some = omega (arith, below x (or_left (x == x) false (same_number x)))
rising_far a (x ∷ y ∷ ys) most rising below some =
    let rest = rising_far (x + 1) (y ∷ ys) most rising.1 (λ v has. below v (or_right (x == v) (is_among (y ∷ ys) v) has)) (omega arith) in
    omega (arith, rest, rising.1.0)

pub scales_are_wide : ScalesAreWide
scales_are_wide styles cells key is many =
    let more : 9 ≤ length key.values = grind (arith, nat_tests, many) in
    let rising = take_rising 9 0 is.shown (rises 0 is.shown is.rising (λ _. omega arith)) in
    let below = λ (v : ℕ) (has : is_among (take 9 is.shown) v ≡ true). All-contains (λ (w : ℕ). w ≤ key.greatest) is.shown v is.below (contained is.shown v (take_among 9 is.shown v has)) in
    let far =
    subst (λ (vs : List ℕ). 0 < length vs → slice_index vs 0 + length vs ≤ key.greatest + 1) (sym is.least) (rising_far 0 (take 9 is.shown) key.greatest rising below)
    (omega (arith, more)) in
    (omega (arith, far, more), omega (arith, far, more))

-- ---- how many states there are in a key

insert_one : (xs : List ℕ) (i v : ℕ) → length (insert xs i v) ≤ length xs + 1
insert_one [] zero v = omega arith
insert_one [] (suc i) v = omega arith
insert_one (x ∷ xs) zero v = omega arith
insert_one (x ∷ xs) (suc i) v = omega (arith, insert_one xs i v)

with_one : (xs : List ℕ) (v : ℕ) → length (with_value xs v) ≤ length xs + 1
with_one xs v = by_test (is_among xs v) where
  by_test : (b : Bool) → length (if b then xs else put xs v) ≤ length xs + 1
  by_test true = omega arith
  by_test false = insert_one xs (rank xs v) v

take_less : (n : ℕ) (xs : List ℕ) → length (take n xs) ≤ length xs
take_less zero xs = omega arith
take_less (suc n) [] = omega arith
take_less (suc n) (x ∷ xs) = omega (arith, take_less n xs)

one_each : (cells : List ℕ) (key : KeyView) → length (key_from key cells).values ≤ length key.values + length cells
one_each [] key = omega arith
one_each (c ∷ cells) key =
    let step = cell_by (λ (k : KeyView). length k.values ≤ length key.values + 1) key c (c == no_value) (omega arith)
    (omega (arith, take_less 9 (with_value key.values c), with_one key.values c)) in
    omega (arith, step, one_each cells (with_cell key c))

few_states : (styles : StylesView) → state_count styles ≤ 8 → length (state_key styles).values ≤ 8
few_states styles few = omega (arith, few, one_each (range_with_len 0 (state_count styles)) (blank_key styles), length-range_with_len 0 (state_count styles))

pub states_keep_their_colours : StatesKeepTheirColours
states_keep_their_colours styles cells others key other v few first second is are =
    of_key (λ (k : KeyView). class_of k v ≡ class_of other v) styles cells key is
    (of_key (λ (k : KeyView). class_of (key_of styles cells) v ≡ class_of k v) styles others other are (states_told styles cells others v (few_states styles few) first second))
