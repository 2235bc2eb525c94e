-- The parts of one list between offsets.
use Rattle.std.proofs.Common.{◌≡◌, ◌∙◌, ℕ, ◌+◌, ◌-◌, ◌<◌, ◌≤◌, Bool, true, false, List, [], ◌∷◌, length, get_or, zero, suc, nat_lt, refl, sym, ap, map, take, drop, length-take, length-drop, cond, Some, None, option_map, arith, inl, inr}
use Rattle.std.proofs.lemmas.Bool.{cases_Bool}
use Rattle.std.proofs.lemmas.Bool.Decides.{nat_tests}
use Rattle.std.specs.List.{sum_by, zip, slice_get}
use Rattle.std.proofs.lemmas.List.{take-map, drop-map}
use Rattle.std.proofs.lemmas.List.FromFn.{length-map-range_with_len, get_or-map-range_with_len, sum_by-map-range_with_len_more}
use Rattle.std.proofs.lemmas.Option.{slice_get-get_or, slice_get_past}
use Rattle.link_net.specs.Neighbours.{numbers_below}
use Rattle.link_net.specs.Layout.{part, rows_of, AreOffsets}

-- the first and the second column of two lists side by side
pub firsts_zip : (xs ys : List ℕ) → length ys ≡ length xs → map (λ a. a.0) (zip xs ys) ≡ xs
firsts_zip [] ys same = refl
firsts_zip (x ∷ xs) [] same = absurd (omega (arith, same))
firsts_zip (x ∷ xs) (y ∷ ys) same = ap (λ t. x ∷ t) (firsts_zip xs ys (omega (arith, same)))

pub seconds_zip : (xs ys : List ℕ) → length ys ≡ length xs → map (λ a. a.1) (zip xs ys) ≡ ys
seconds_zip [] [] same = refl
seconds_zip [] (y ∷ ys) same = absurd (omega (arith, same))
seconds_zip (x ∷ xs) [] same = absurd (omega (arith, same))
seconds_zip (x ∷ xs) (y ∷ ys) same = ap (λ t. y ∷ t) (seconds_zip xs ys (omega (arith, same)))

pub length_zip : (xs ys : List ℕ) → length ys ≡ length xs → length (zip xs ys) ≡ length xs
length_zip [] ys same = refl
length_zip (x ∷ xs) [] same = absurd (omega (arith, same))
length_zip (x ∷ xs) (y ∷ ys) same = ap suc (length_zip xs ys (omega (arith, same)))

-- a part of a mapped list
pub map_part : {X Y : Type 0} (f : X → Y) (offsets : List ℕ) (items : List X) (u : ℕ) → map f (part offsets items u) ≡ part offsets (map f items) u
map_part f offsets items u =
    let i = get_or offsets u 0 in
    let j = get_or offsets (u + 1) 0 in
    sym (take-map f (j - i) (drop i items)) ∙ ap (take (j - i)) (sym (drop-map f i items))

pub slice_get_range : {X : Type 0} (f : ℕ → X) (n u : ℕ) → slice_get (map f (numbers_below n)) u ≡ cond (nat_lt u n) (Some (f u)) None
slice_get_range f n u =
    elim (cases_Bool (nat_lt u n)) [
      | inl low ↦
          let lt : u < n = grind (arith, nat_tests) in
          let long : u < length (map f (numbers_below n)) = omega (arith, length-map-range_with_len f 0 n) in
          rw low (slice_get-get_or (map f (numbers_below n)) u (f u) long ∙ ap Some (get_or-map-range_with_len f 0 n u u (f u) lt (omega arith)))
      | inr high ↦
          let ge : n ≤ u = grind (arith, nat_tests) in
          rw high (slice_get_past (map f (numbers_below n)) u (omega (arith, length-map-range_with_len f 0 n)))
    ]

under_test : {X Y : Type 0} (g : X → Y) (b : Bool) (x : X) (y : Y) → g x ≡ y → cond b (Some y) None ≡ option_map g (cond b (Some x) None)
under_test g true x y h = ap Some (sym h)
under_test g false x y h = refl

-- the part of one column is that column of the row
pub first_column : (offsets ns ws : List ℕ) (u : ℕ) → length ws ≡ length ns
    → cond (nat_lt u (length offsets - 1)) (Some (part offsets ns u)) None ≡ option_map (λ row. map (λ a. a.0) row) (slice_get (rows_of offsets ns ws) u)
first_column offsets ns ws u same =
    let f = part offsets (zip ns ws) in
    rw (slice_get_range f (length offsets - 1) u)
    (under_test (λ (row : List (ℕ × ℕ)). map (λ a. a.0) row) (nat_lt u (length offsets - 1)) (f u) (part offsets ns u)
    (map_part (λ (a : ℕ × ℕ). a.0) offsets (zip ns ws) u ∙ ap (λ xs. part offsets xs u) (firsts_zip ns ws same)))

pub second_column : (offsets ns ws : List ℕ) (u : ℕ) → length ws ≡ length ns
    → cond (nat_lt u (length offsets - 1)) (Some (part offsets ws u)) None ≡ option_map (λ row. map (λ a. a.1) row) (slice_get (rows_of offsets ns ws) u)
second_column offsets ns ws u same =
    let f = part offsets (zip ns ws) in
    rw (slice_get_range f (length offsets - 1) u)
    (under_test (λ (row : List (ℕ × ℕ)). map (λ a. a.1) row) (nat_lt u (length offsets - 1)) (f u) (part offsets ws u)
    (map_part (λ (a : ℕ × ℕ). a.1) offsets (zip ns ws) u ∙ ap (λ xs. part offsets xs u) (seconds_zip ns ws same)))

module _ {X : Type 0} (offsets : List ℕ) (items : List X) (good : AreOffsets offsets (length items)) where
  -- each offset is within the items
  pub offset_within : (u : ℕ) → u < length offsets → get_or offsets u 0 ≤ length items
  offset_within u low = omega (arith, good.last, good.rising u (length offsets - 1) 0 (omega arith) (omega arith))

  pub length_part : (u : ℕ) → u + 1 < length offsets → length (part offsets items u) + get_or offsets u 0 ≡ get_or offsets (u + 1) 0
  length_part u low =
      let i = get_or offsets u 0 in
      let j = get_or offsets (u + 1) 0 in
      let up : i ≤ j = good.rising u (u + 1) 0 (omega arith) low in
      let within : j ≤ length items = offset_within (u + 1) low in
      omega (arith, length-take (j - i) (drop i items), length-drop i items)

  up_to : (u m : ℕ) → m ≡ u + 1 → sum_by length (map (part offsets items) (numbers_below u)) ≡ get_or offsets u 0
      → length (part offsets items u) + get_or offsets u 0 ≡ get_or offsets (u + 1) 0 → sum_by length (map (part offsets items) (numbers_below m)) ≡ get_or offsets m 0
  up_to u m is before here = rw is (sum_by-map-range_with_len_more length (part offsets items) 0 u u (omega arith) ∙ omega (arith, before, here))

  -- the parts before u are as long as the offset of u says
  pub sum_below : (u : ℕ) → u < length offsets → sum_by length (map (part offsets items) (numbers_below u)) ≡ get_or offsets u 0
  sum_below zero low = sym good.first
  sum_below (suc u) low = up_to u (suc u) (omega arith) (sum_below u (omega arith)) (length_part u (omega arith))

  pub sum_parts : sum_by length (map (part offsets items) (numbers_below (length offsets - 1))) ≡ length items
  sum_parts = sum_below (length offsets - 1) (omega (arith, good.some)) ∙ good.last
