-- The key that is made cell by cell is a key of these cells, and cells have no other.
use Rattle.std.proofs.Common.{◌≡◌, ◌≢◌, ◌∙◌, ◌⊎◌, ◌↔◌, ◌<◌, ◌≤◌, ◌+◌, ◌==◌, ◌||◌, ℕ, zero, suc, List, [], ◌∷◌, Bool, true, false, All, Contains, if◌then◌else◌, ap, arith, inl, inr, length, max, nat_lt, refl, slice_index, slice_index_or, subst, sym, take}
use Rattle.std.proofs.lemmas.Bool.{cases_Bool, cases_lt, or_cases}
use Rattle.std.proofs.lemmas.Bool.Decides.{nat_tests}
use Rattle.std.proofs.lemmas.List.{take-take}
use Rattle.std.proofs.lemmas.List.Elements.{All-contains, Contains-get_or}
use Rattle.std.specs.List.{range_with_len}
use Rattle.std.specs.List.Sorted.{IsStrictlyIncreasing}
use Rattle.run_picture.specs.Chosen.{StylesView}
use Rattle.run_picture.specs.Keys.{blank_key, is_among, key_from, key_of, state_key, with_cell, with_value}
use Rattle.run_picture.specs.Shades.{IsKey, IsShown, KeyView, KeysAreOne, no_value, rank, state_count}
use Rattle.run_picture.proofs.Fills.{key_styles}
use Rattle.run_picture.proofs.StateColours.{state_among}
use Rattle.run_picture.proofs.Told.{Rising, among, any_insert, grown, marked, or_left, or_right, put, put_less, put_more, rising_least, same_number, take_rising, with_has, with_own, with_rising}

-- ---- rising values, and one more at its place

abbrev placed : List ℕ → ℕ → List ℕ
placed [] v = v ∷ []
placed (x ∷ xs) v = if nat_lt x v then x ∷ placed xs v else if x == v then x ∷ xs else v ∷ x ∷ xs

placed_less : (x v : ℕ) (xs : List ℕ) → nat_lt x v ≡ true → placed (x ∷ xs) v ≡ x ∷ placed xs v
placed_less x v xs less = ap (λ (b : Bool). if b then x ∷ placed xs v else if x == v then x ∷ xs else v ∷ x ∷ xs) less

placed_same : (x v : ℕ) (xs : List ℕ) → nat_lt x v ≡ false → (x == v) ≡ true → placed (x ∷ xs) v ≡ x ∷ xs
placed_same x v xs more same =
    ap (λ (b : Bool). if b then x ∷ placed xs v else if x == v then x ∷ xs else v ∷ x ∷ xs) more ∙ ap (λ (b : Bool). if b then x ∷ xs else v ∷ x ∷ xs) same

placed_more : (x v : ℕ) (xs : List ℕ) → nat_lt x v ≡ false → (x == v) ≡ false → placed (x ∷ xs) v ≡ v ∷ x ∷ xs
placed_more x v xs more other =
    ap (λ (b : Bool). if b then x ∷ placed xs v else if x == v then x ∷ xs else v ∷ x ∷ xs) more ∙ ap (λ (b : Bool). if b then x ∷ xs else v ∷ x ∷ xs) other

behind : (b : Bool) (x : ℕ) (xs ys : List ℕ) → (if b then x ∷ xs else x ∷ ys) ≡ x ∷ (if b then xs else ys)
behind true x xs ys = refl
behind false x xs ys = refl

not_among : (x v : ℕ) (xs : List ℕ) → Rising (x + 1) xs → v ≤ x → is_among xs v ≡ false
not_among x v xs rising late =
    elim (cases_Bool (is_among xs v)) [
      | inl there ↦ absurd (omega (arith, late, rising_least (x + 1) v xs rising there))
      | inr none ↦ none
    ]

with_by_order : (less same : Bool) (x v : ℕ) (xs : List ℕ) → nat_lt x v ≡ less → (x == v) ≡ same → Rising (x + 1) xs → with_value xs v ≡ placed xs v
    → with_value (x ∷ xs) v ≡ placed (x ∷ xs) v
with_by_order true true x v xs is are rising rest = absurd (grind (arith, nat_tests, is, are))
with_by_order true false x v xs is are rising rest =
    ap (λ (b : Bool). if (b || is_among xs v) then x ∷ xs else put (x ∷ xs) v) are
    ∙ ap (λ (ys : List ℕ). if is_among xs v then x ∷ xs else ys) (put_less x v xs is)
    ∙ behind (is_among xs v) x xs (put xs v)
    ∙ ap (λ (ys : List ℕ). x ∷ ys) rest
    ∙ sym (placed_less x v xs is)
with_by_order false true x v xs is are rising rest =
    ap (λ (b : Bool). if (b || is_among xs v) then x ∷ xs else put (x ∷ xs) v) are ∙ sym (placed_same x v xs is are)
with_by_order false false x v xs is are rising rest =
    let late : v ≤ x = grind (arith, nat_tests, is) in
    ap (λ (b : Bool). if (b || is_among xs v) then x ∷ xs else put (x ∷ xs) v) are
    ∙ ap (λ (b : Bool). if b then x ∷ xs else put (x ∷ xs) v) (not_among x v xs rising late)
    ∙ put_more x v xs is
    ∙ sym (placed_more x v xs is are)

with_is_placed : (a : ℕ) (xs : List ℕ) (v : ℕ) → Rising a xs → with_value xs v ≡ placed xs v
with_is_placed a [] v rising = refl
with_is_placed a (x ∷ xs) v rising = with_by_order (nat_lt x v) (x == v) x v xs refl refl rising.1 (with_is_placed (x + 1) xs v rising.1)

take_one : (n x : ℕ) (xs : List ℕ) → take n (x ∷ take n xs) ≡ take n (x ∷ xs)
take_one zero x xs = refl
take_one (suc m) x xs = ap (λ (ys : List ℕ). x ∷ ys) (take-take m (suc m) xs (omega arith))

take_by : (less same : Bool) (n x v : ℕ) (xs : List ℕ) → nat_lt x v ≡ less → (x == v) ≡ same → take n (placed (take n xs) v) ≡ take n (placed xs v)
    → take (suc n) (placed (x ∷ take n xs) v) ≡ take (suc n) (placed (x ∷ xs) v)
take_by true same n x v xs is are rest =
    ap (take (suc n)) (placed_less x v (take n xs) is) ∙ ap (λ (ys : List ℕ). x ∷ ys) rest ∙ sym (ap (take (suc n)) (placed_less x v xs is))
take_by false true n x v xs is are rest =
    ap (take (suc n)) (placed_same x v (take n xs) is are) ∙ ap (λ (ys : List ℕ). x ∷ ys) (take-take n n xs (omega arith)) ∙ sym (ap (take (suc n)) (placed_same x v xs is are))
take_by false false n x v xs is are rest =
    ap (take (suc n)) (placed_more x v (take n xs) is are) ∙ ap (λ (ys : List ℕ). v ∷ ys) (take_one n x xs) ∙ sym (ap (take (suc n)) (placed_more x v xs is are))

take_placed : (n : ℕ) (xs : List ℕ) (v : ℕ) → take n (placed (take n xs) v) ≡ take n (placed xs v)
take_placed zero xs v = refl
take_placed (suc n) [] v = refl
take_placed (suc n) (x ∷ xs) v = take_by (nat_lt x v) (x == v) n x v xs refl refl (take_placed n xs v)

-- the least of values and of one more follow from the least of these values
take_with : (all : List ℕ) (v : ℕ) → Rising 0 all → take 9 (with_value (take 9 all) v) ≡ take 9 (with_value all v)
take_with all v rising =
    ap (take 9) (with_is_placed 0 (take 9 all) v (take_rising 9 0 all rising)) ∙ take_placed 9 all v ∙ sym (ap (take 9) (with_is_placed 0 all v rising))

already : (xs : List ℕ) (v w : ℕ) → is_among xs v ≡ true → is_among xs w ≡ ((v == w) || is_among xs w)
already xs v w there =
    elim (cases_Bool (v == w)) [
      | inl is ↦ (let same : v ≡ w = grind (arith, nat_tests, is) in
          subst (λ (u : ℕ). is_among xs u ≡ true) same there ∙ sym (ap (λ (b : Bool). b || is_among xs w) is))
      | inr is ↦ sym (ap (λ (b : Bool). b || is_among xs w) is)
    ]

among_by : (b : Bool) (xs : List ℕ) (v w : ℕ) → is_among xs v ≡ b → is_among (if b then xs else put xs v) w ≡ ((v == w) || is_among xs w)
among_by true xs v w is = already xs v w is
among_by false xs v w is = any_insert (λ (x : ℕ). x == w) xs (rank xs v) v

among_with : (xs : List ℕ) (v w : ℕ) → is_among (with_value xs v) w ≡ ((v == w) || is_among xs w)
among_with xs v w = among_by (is_among xs v) xs v w refl

-- ---- all values that are shown

-- these values and those of cells
abbrev held : List ℕ → List ℕ → List ℕ
held all [] = all
held all (c ∷ cells) = held (if c == no_value then all else with_value all c) cells

-- a key has the least and the greatest of all these values
record IsHeld (key : KeyView) (all : List ℕ) : Type 0 where
  pub rising : Rising 0 all
  pub values : key.values ≡ take 9 all
  pub below : (v : ℕ) → is_among all v ≡ true → v ≤ key.greatest
  pub reached : (is_among all key.greatest ≡ true) ⊎ (key.greatest ≡ 0)

grown_below : (key : KeyView) (all : List ℕ) (c v : ℕ) → IsHeld key all → is_among (with_value all c) v ≡ true → v ≤ max key.greatest c
grown_below key all c v h has =
    elim (or_cases (c == v) (is_among all v) (sym (among_with all c v) ∙ has)) [
      | inl is ↦ (let same : c ≡ v = grind (arith, nat_tests, is) in omega arith)
      | inr there ↦ omega (arith, h.below v there)
    ]

grown_reached : (key : KeyView) (all : List ℕ) (c : ℕ) → IsHeld key all → (is_among (with_value all c) (max key.greatest c) ≡ true) ⊎ (max key.greatest c ≡ 0)
grown_reached key all c h =
    elim (cases_lt c key.greatest) [
      | inl less ↦ (let e : key.greatest ≡ max key.greatest c = omega (arith, less) in
          elim h.reached [
            | inl there ↦ inl (subst (λ (m : ℕ). is_among (with_value all c) m ≡ true) e (with_has all c key.greatest there))
            | inr none ↦ absurd (omega (arith, less, none))
          ])
      | inr more ↦ (let e : c ≡ max key.greatest c = omega (arith, more) in
          inl (subst (λ (m : ℕ). is_among (with_value all c) m ≡ true) e (with_own all c)))
    ]

cell_held : (b : Bool) (key : KeyView) (all : List ℕ) (c : ℕ) → IsHeld key all → IsHeld (if b then marked key else grown key c) (if b then all else with_value all c)
cell_held true key all c h = record { rising = h.rising; values = h.values; below = h.below; reached = h.reached }
cell_held false key all c h = record {
  rising = with_rising all c h.rising;
  values = ap (λ (ys : List ℕ). take 9 (with_value ys c)) h.values ∙ take_with all c h.rising;
  below = λ v has. grown_below key all c v h has;
  reached = grown_reached key all c h;
}

cells_held : (cells : List ℕ) (key : KeyView) (all : List ℕ) → IsHeld key all → IsHeld (key_from key cells) (held all cells)
cells_held [] key all h = h
cells_held (c ∷ cells) key all h = cells_held cells (with_cell key c) (if c == no_value then all else with_value all c) (cell_held (c == no_value) key all c h)

-- ---- which these are

next_has : (b : Bool) (all : List ℕ) (c v : ℕ) (cells : List ℕ) → (c == no_value) ≡ b → is_among (if b then all else with_value all c) v ≡ true
    → (is_among all v ≡ true) ⊎ ((is_among (c ∷ cells) v ≡ true) × (v ≢ no_value))
next_has true all c v cells is has = inl has
next_has false all c v cells is has =
    elim (or_cases (c == v) (is_among all v) (sym (among_with all c v) ∙ has)) [
      | inl here ↦ inr (or_left (c == v) (is_among cells v) here, other_number c v is here)
      | inr there ↦ inl there
    ] where
      other_number : (c v : ℕ) → (c == no_value) ≡ false → (c == v) ≡ true → v ≢ no_value
      other_number c v is here none = absurd (grind (arith, nat_tests, is, here, none))

held_has : (cells all : List ℕ) (v : ℕ) → is_among (held all cells) v ≡ true → (is_among all v ≡ true) ⊎ ((is_among cells v ≡ true) × (v ≢ no_value))
held_has [] all v has = inl has
held_has (c ∷ cells) all v has =
    elim (held_has cells (if c == no_value then all else with_value all c) v has) [
      | inl first ↦ next_has (c == no_value) all c v cells refl first
      | inr later ↦ inr (or_right (c == v) (is_among cells v) later.0, later.1)
    ]

next_keeps : (b : Bool) (all : List ℕ) (c v : ℕ) → is_among all v ≡ true → is_among (if b then all else with_value all c) v ≡ true
next_keeps true all c v has = has
next_keeps false all c v has = with_has all c v has

held_keeps : (cells all : List ℕ) (v : ℕ) → is_among all v ≡ true → is_among (held all cells) v ≡ true
held_keeps [] all v has = has
held_keeps (c ∷ cells) all v has = held_keeps cells (if c == no_value then all else with_value all c) v (next_keeps (c == no_value) all c v has)

next_gets : (b : Bool) (all : List ℕ) (c v : ℕ) → (c == no_value) ≡ b → (c == v) ≡ true → v ≢ no_value → is_among (if b then all else with_value all c) v ≡ true
next_gets true all c v is here some = absurd (grind (arith, nat_tests, is, here, some))
next_gets false all c v is here some =
    let same : c ≡ v = grind (arith, nat_tests, here) in
    subst (λ (u : ℕ). is_among (with_value all c) u ≡ true) same (with_own all c)

held_gets : (cells all : List ℕ) (v : ℕ) → is_among cells v ≡ true → v ≢ no_value → is_among (held all cells) v ≡ true
held_gets [] all v has some = absurd (let e : false ≡ true = has in cc)
held_gets (c ∷ cells) all v has some =
    let more : List ℕ = if c == no_value then all else with_value all c in
    elim (or_cases (c == v) (is_among cells v) has) [
      | inl here ↦ held_keeps cells more v (next_gets (c == no_value) all c v refl here some)
      | inr later ↦ held_gets cells more v later some
    ]

-- ---- whether a cell has none

or_any : (a : Bool) → true ≡ (a || true)
or_any true = refl
or_any false = refl

or_none : (a : Bool) → a ≡ (a || false)
or_none true = refl
or_none false = refl

or_assoc : (a b c : Bool) → ((a || b) || c) ≡ (a || (b || c))
or_assoc true b c = refl
or_assoc false b c = refl

cell_none : (b : Bool) (key : KeyView) (c : ℕ) → (if b then marked key else grown key c).none ≡ (key.none || b)
cell_none true key c = or_any key.none
cell_none false key c = or_none key.none

key_none : (cells : List ℕ) (key : KeyView) → (key_from key cells).none ≡ (key.none || is_among cells no_value)
key_none [] key = or_none key.none
key_none (c ∷ cells) key =
    key_none cells (with_cell key c)
    ∙ ap (λ (b : Bool). b || is_among cells no_value) (cell_none (c == no_value) key c)
    ∙ or_assoc key.none (c == no_value) (is_among cells no_value)

-- ---- lists of numbers

range_among : (a n v : ℕ) → is_among (range_with_len a n) v ≡ true → v < a + n
range_among a zero v has = absurd (let e : false ≡ true = has in cc)
range_among a (suc n) v has =
    elim (or_cases (a == v) (is_among (range_with_len (a + 1) n) v) has) [
      | inl is ↦ (let same : a ≡ v = grind (arith, nat_tests, is) in omega arith)
      | inr later ↦ (let less = range_among (a + 1) n v later in omega arith)
    ]

pub contained : (xs : List ℕ) (v : ℕ) → is_among xs v ≡ true → Contains xs v
contained [] v has = absurd (let e : false ≡ true = has in cc)
contained (x ∷ xs) v has =
    elim (or_cases (x == v) (is_among xs v) has) [
      | inl is ↦ (let same : x ≡ v = grind (arith, nat_tests, is) in (0, omega arith, same))
      | inr later ↦ (let rest = contained xs v later in (suc rest.0, omega (arith, rest.1), rest.2))
    ]

pub among_of : (xs : List ℕ) (v : ℕ) → Contains xs v → is_among xs v ≡ true
among_of xs v there = among xs v there.0 there.1 (sym there.2)

pub increasing : (a : ℕ) (xs : List ℕ) → Rising a xs → IsStrictlyIncreasing xs
increasing a [] rising k inside = absurd (omega (arith, inside))
increasing a (x ∷ []) rising k inside = absurd (omega (arith, inside))
increasing a (x ∷ y ∷ ys) rising zero inside = omega (arith, rising.1.0)
increasing a (x ∷ y ∷ ys) rising (suc k) inside =
    let e : suc (k + 1) ≡ suc k + 1 = omega arith in
    subst (λ (m : ℕ). slice_index (x ∷ y ∷ ys) (suc k) < slice_index (x ∷ y ∷ ys) m) e (increasing (x + 1) (y ∷ ys) rising.1 k (omega (arith, inside)))

pub rises : (a : ℕ) (xs : List ℕ) → IsStrictlyIncreasing xs → (0 < length xs → a ≤ slice_index xs 0) → Rising a xs
rises a [] up late = tt
rises a (x ∷ xs) up late = (
  late (omega arith),
  rises (x + 1) xs
      (λ k inside.
      let e : suc k + 1 ≡ suc (k + 1) = omega arith in
      subst (λ (m : ℕ). slice_index xs k < slice_index (x ∷ xs) m) e (up (suc k) (omega (arith, inside))))
      (λ some. omega (arith, up 0 (omega (arith, some)))),
)

below_first : (x y v : ℕ) (ys : List ℕ) → x ≡ y → Rising (y + 1) ys → x + 1 ≤ v → is_among (y ∷ ys) v ≡ true → is_among ys v ≡ true
below_first x y v ys same rising above has =
    elim (or_cases (y == v) (is_among ys v) has) [
      | inl is ↦ absurd (grind (arith, nat_tests, is, same, above))
      | inr later ↦ later
    ]

-- rising numbers that are the same are in the same order
pub same_rising : (a b : ℕ) (xs ys : List ℕ) → Rising a xs → Rising b ys → ((v : ℕ) → is_among xs v ≡ true → is_among ys v ≡ true) → ((v : ℕ) → is_among ys v ≡ true → is_among xs v ≡ true)
    → xs ≡ ys
same_rising a b [] [] one two there back = refl
same_rising a b [] (y ∷ ys) one two there back = absurd (let e : false ≡ true = back y (or_left (y == y) (is_among ys y) (same_number y)) in cc)
same_rising a b (x ∷ xs) [] one two there back = absurd (let e : false ≡ true = there x (or_left (x == x) (is_among xs x) (same_number x)) in cc)
same_rising a b (x ∷ xs) (y ∷ ys) one two there back =
    let over : y ≤ x = rising_least y x (y ∷ ys) (omega arith, two.1) (there x (or_left (x == x) (is_among xs x) (same_number x))) in
    let under : x ≤ y = rising_least x y (x ∷ xs) (omega arith, one.1) (back y (or_left (y == y) (is_among ys y) (same_number y))) in
    let same : x ≡ y = omega (arith, over, under) in
    let rest = same_rising (x + 1) (y + 1) xs ys one.1 two.1
    (λ v has. below_first x y v ys same two.1 (rising_least (x + 1) v xs one.1 has) (there v (or_right (x == v) (is_among xs v) has)))
    (λ v has. below_first y x v xs (sym same) one.1 (rising_least (y + 1) v ys two.1 has) (back v (or_right (y == v) (is_among ys v) has))) in
    ap (λ (z : ℕ). z ∷ xs) same ∙ ap (λ (zs : List ℕ). y ∷ zs) rest

pub same_numbers : (xs ys : List ℕ) → IsStrictlyIncreasing xs → IsStrictlyIncreasing ys → ((v : ℕ) → Contains xs v → Contains ys v) → ((v : ℕ) → Contains ys v → Contains xs v) → xs ≡ ys
same_numbers xs ys one two there back =
    same_rising 0 0 xs ys (rises 0 xs one (λ _. omega arith)) (rises 0 ys two (λ _. omega arith)) (λ v has. among_of ys v (there v (contained xs v has)))
    (λ v has. among_of xs v (back v (contained ys v has)))

-- ---- the key

none_first : (styles : StylesView) → (state_key styles).none ≡ false
none_first styles = key_none (range_with_len 0 (state_count styles)) (blank_key styles) ∙ no_state where
  no_state : is_among (range_with_len 0 (state_count styles)) no_value ≡ false
  no_state =
      elim (cases_Bool (is_among (range_with_len 0 (state_count styles)) no_value)) [
        | inl there ↦ absurd (omega (arith, range_among 0 (state_count styles) no_value there))
        | inr none ↦ none
      ]

shown_is : (styles : StylesView) (cells : List ℕ) (v : ℕ) → (is_among (held [] (range_with_len 0 (state_count styles))) v ≡ true) ⊎ ((is_among cells v ≡ true) × (v ≢ no_value))
    → IsShown styles cells v
shown_is styles cells v (inl first) =
    elim (held_has (range_with_len 0 (state_count styles)) [] v first) [
      | inl none ↦ absurd (let e : false ≡ true = none in cc)
      | inr state ↦ inl (omega (arith, range_among 0 (state_count styles) v state.0))
    ]
shown_is styles cells v (inr later) = inr (contained cells v later.0, later.1)

is_shown : (styles : StylesView) (cells : List ℕ) (v : ℕ) → IsShown styles cells v → is_among (held (held [] (range_with_len 0 (state_count styles))) cells) v ≡ true
is_shown styles cells v (inl state) =
    let states = range_with_len 0 (state_count styles) in
    let some : v ≢ no_value = λ none. omega (arith, none, state) in
    held_keeps cells (held [] states) v (held_gets states [] v (state_among 0 (state_count styles) v (omega arith) (omega (arith, state))) some)
is_shown styles cells v (inr has) = held_gets cells (held [] (range_with_len 0 (state_count styles))) v (among_of cells v has.0) has.1

pub is_key : (styles : StylesView) (cells : List ℕ) → IsKey styles cells (key_of styles cells)
is_key styles cells =
    let count = state_count styles in
    let states = range_with_len 0 count in
    let start : IsHeld (blank_key styles) [] = record { rising = tt; values = refl; below = λ v has. absurd (let e : false ≡ true = has in cc); reached = inr refl } in
    let first = cells_held states (blank_key styles) [] start in
    let whole = cells_held cells (state_key styles) (held [] states) first in
    let shown = held (held [] states) cells in
    record {
      same_styles = key_styles styles cells;
      shown = shown;
      rising = increasing 0 shown whole.rising;
      each = λ v. (λ there. shown_is styles cells v (held_has cells (held [] states) v (among_of shown v there)), λ is. contained shown v (is_shown styles cells v is));
      least = whole.values;
      below = λ k d inside. whole.below (slice_index_or shown k d) (among_of shown (slice_index_or shown k d) (Contains-get_or shown k d inside));
      reached = elim whole.reached [ inl there ↦ inl (contained shown (key_of styles cells).greatest there) | inr none ↦ inr none ];
      none = (
        λ there. contained cells no_value (sym (key_none cells (state_key styles) ∙ ap (λ (b : Bool). b || is_among cells no_value) (none_first styles)) ∙ there),
        λ there. key_none cells (state_key styles) ∙ ap (λ (b : Bool). b || is_among cells no_value) (none_first styles) ∙ among_of cells no_value there,
      );
    }

-- ---- and no other

abbrev made : StylesView → List ℕ → ℕ → Bool → KeyView
made styles values greatest none = record { styles = styles; values = values; greatest = greatest; none = none }

same_flag : (P : Type 0) (a b : Bool) → ((a ≡ true) ↔ P) → ((b ≡ true) ↔ P) → a ≡ b
same_flag P true true one two = refl
same_flag P true false one two = sym (two.1 (one.0 refl))
same_flag P false true one two = one.1 (two.0 refl)
same_flag P false false one two = refl

reaches : (shown : List ℕ) (g h : ℕ) → Contains shown g ⊎ (g ≡ 0) → All (λ (v : ℕ). v ≤ h) shown → g ≤ h
reaches shown g h (inl there) all = All-contains (λ (v : ℕ). v ≤ h) shown g all there
reaches shown g h (inr none) all = omega (arith, none)

pub one_key : KeysAreOne
one_key styles cells key other one two =
    let same = same_numbers one.shown two.shown one.rising two.rising (λ v has. (two.each v).1 ((one.each v).0 has)) (λ v has. (one.each v).1 ((two.each v).0 has)) in
    let under = reaches two.shown key.greatest other.greatest (subst (λ (xs : List ℕ). Contains xs key.greatest ⊎ (key.greatest ≡ 0)) same one.reached) two.below in
    let over = reaches one.shown other.greatest key.greatest (subst (λ (xs : List ℕ). Contains xs other.greatest ⊎ (other.greatest ≡ 0)) (sym same) two.reached) one.below in
    let greatest : key.greatest ≡ other.greatest = omega (arith, under, over) in
    ap (λ (s : StylesView). made s key.values key.greatest key.none) (one.same_styles ∙ sym two.same_styles)
    ∙ ap (λ (vs : List ℕ). made other.styles vs key.greatest key.none) (one.least ∙ ap (take 9) same ∙ sym two.least)
    ∙ ap (λ (g : ℕ). made other.styles other.values g key.none) greatest
    ∙ ap (λ (b : Bool). made other.styles other.values other.greatest b) (same_flag (Contains cells no_value) key.none other.none one.none two.none)

-- what holds of the key that is made holds of each
pub of_key : (P : KeyView → Type 0) (styles : StylesView) (cells : List ℕ) (key : KeyView) → IsKey styles cells key → P (key_of styles cells) → P key
of_key P styles cells key is holds = subst P (one_key styles cells (key_of styles cells) key (is_key styles cells) is) holds
