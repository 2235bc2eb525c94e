-- Values that are told apart by their colours.
use Rattle.std.proofs.Common.{◌≡◌, ◌≢◌, ◌∙◌, ◌↔◌, ◌<◌, ◌≤◌, ◌+◌, ◌==◌, ◌||◌, ℕ, zero, suc, List, [], ◌∷◌, Bool, true, false, cond, if◌then◌else◌, ap, arith, length, max, nat_le, nat_lt, not, refl, slice_index, slice_index_or, subst, sym, take}
use Rattle.std.proofs.lemmas.Bool.Decides.{nat_tests}
use Rattle.std.proofs.lemmas.List.Sums.{prefix_len-le-length}
use Rattle.std.specs.List.{IsAmong, insert, list_any, range_with_len}
use Rattle.run_picture.specs.declared.chosen.ValueColour.{ValueColour}
use Rattle.run_picture.specs.Chosen.{StylesView, has_own, own_place}
use Rattle.run_picture.specs.Keys.{blank_key, is_among, key_from, key_of, state_key, with_cell, with_value}
use Rattle.run_picture.specs.Shades.{KeyView, class_count, class_of, is_few, no_value, rank, shade_of, state_count, step_of}

-- each is above those before it, and from a on
abbrev pub Rising : ℕ → List ℕ → Type 0
Rising a [] = Unit {0}
Rising a (x ∷ xs) = (a ≤ x) × Rising (x + 1) xs

or_false : (a b : Bool) → (a || b) ≡ false → (a ≡ false) × (b ≡ false)
or_false true b none = absurd (let e : true ≡ false = none in cc)
or_false false b none = (refl, none)

or_swap : (a b c : Bool) → (a || (b || c)) ≡ (b || (a || c))
or_swap true true c = refl
or_swap true false c = refl
or_swap false true c = refl
or_swap false false c = refl

pub or_right : (a b : Bool) → b ≡ true → (a || b) ≡ true
or_right true b is = refl
or_right false b is = is

pub or_left : (a b : Bool) → a ≡ true → (a || b) ≡ true
or_left a b is = ap (λ (x : Bool). x || b) is

pub same_number : (v : ℕ) → (v == v) ≡ true
same_number v = grind (arith, nat_tests)

-- a list with one more at some place has it, and those that it had
pub any_insert : (f : ℕ → Bool) (xs : List ℕ) (i v : ℕ) → list_any f (insert xs i v) ≡ (f v || list_any f xs)
any_insert f [] zero v = refl
any_insert f [] (suc i) v = refl
any_insert f (x ∷ xs) zero v = refl
any_insert f (x ∷ xs) (suc i) v = ap (λ (b : Bool). f x || b) (any_insert f xs i v) ∙ or_swap (f x) (f v) (list_any f xs)

longer : (xs : List ℕ) (i v : ℕ) → length xs ≤ length (insert xs i v)
longer [] i v = omega arith
longer (x ∷ xs) zero v = omega arith
longer (x ∷ xs) (suc i) v = omega (arith, longer xs i v)

abbrev pub put : List ℕ → ℕ → List ℕ
put xs v = insert xs (rank xs v) v

rank_less : (x v : ℕ) (xs : List ℕ) → nat_lt x v ≡ true → rank (x ∷ xs) v ≡ suc (rank xs v)
rank_less x v xs less =
    let e : 1 + rank xs v ≡ suc (rank xs v) = omega arith in
    ap (λ (b : Bool). cond b (1 + rank xs v) 0) less ∙ e

rank_more : (x v : ℕ) (xs : List ℕ) → nat_lt x v ≡ false → rank (x ∷ xs) v ≡ 0
rank_more x v xs more = ap (λ (b : Bool). cond b (1 + rank xs v) 0) more

pub put_less : (x v : ℕ) (xs : List ℕ) → nat_lt x v ≡ true → put (x ∷ xs) v ≡ x ∷ put xs v
put_less x v xs less = ap (λ (i : ℕ). insert (x ∷ xs) i v) (rank_less x v xs less)

pub put_more : (x v : ℕ) (xs : List ℕ) → nat_lt x v ≡ false → put (x ∷ xs) v ≡ v ∷ x ∷ xs
put_more x v xs more = ap (λ (i : ℕ). insert (x ∷ xs) i v) (rank_more x v xs more)

put_by : (b : Bool) (a x v : ℕ) (xs : List ℕ) → nat_lt x v ≡ b → Rising a (x ∷ xs) → (x == v) ≡ false → a ≤ v → (x + 1 ≤ v → Rising (x + 1) (put xs v)) → Rising a (put (x ∷ xs) v)
put_by true a x v xs is rising other late more =
    let above : x + 1 ≤ v = grind (arith, nat_tests, is) in
    subst (Rising a) (sym (put_less x v xs is)) (rising.0, more above)
put_by false a x v xs is rising other late more =
    let above : v + 1 ≤ x = grind (arith, nat_tests, is, other) in
    subst (Rising a) (sym (put_more x v xs is)) (late, (above, rising.1))

put_rising : (a v : ℕ) (xs : List ℕ) → Rising a xs → is_among xs v ≡ false → a ≤ v → Rising a (put xs v)
put_rising a v [] rising other late = (late, tt)
put_rising a v (x ∷ xs) rising other late =
    let apart = or_false (x == v) (is_among xs v) other in
    put_by (nat_lt x v) a x v xs refl rising apart.0 late (λ above. put_rising (x + 1) v xs rising.1 apart.1 above)

pub take_rising : (n a : ℕ) (xs : List ℕ) → Rising a xs → Rising a (take n xs)
take_rising zero a xs rising = tt
take_rising (suc n) a [] rising = tt
take_rising (suc n) a (x ∷ xs) rising = (rising.0, take_rising n (x + 1) xs rising.1)

take_short : (n : ℕ) (xs : List ℕ) → length (take n xs) < n → take n xs ≡ xs
take_short zero xs short = absurd (omega (arith, short))
take_short (suc n) [] short = refl
take_short (suc n) (x ∷ xs) short = ap (λ (ys : List ℕ). x ∷ ys) (take_short n xs (omega (arith, short)))

take_few : (n : ℕ) (xs : List ℕ) → length (take n xs) ≤ n
take_few zero xs = omega arith
take_few (suc n) [] = omega arith
take_few (suc n) (x ∷ xs) = omega (arith, take_few n xs)

take_longer : (n m : ℕ) (xs : List ℕ) → m ≤ n → m ≤ length xs → m ≤ length (take n xs)
take_longer zero m xs few long = omega (arith, few)
take_longer (suc n) m [] few long = omega (arith, long)
take_longer (suc n) zero (x ∷ xs) few long = omega arith
take_longer (suc n) (suc m) (x ∷ xs) few long = omega (arith, take_longer n m xs (omega (arith, few)) (omega (arith, long)))

-- with a value, by whether it is there
with_by : (P : List ℕ → Type 0) (b : Bool) (xs : List ℕ) (v : ℕ) → is_among xs v ≡ b → P xs → (is_among xs v ≡ false → P (put xs v)) → P (if b then xs else put xs v)
with_by P true xs v is there put_there = there
with_by P false xs v is there put_there = put_there is

with_own_by : (b : Bool) (xs : List ℕ) (v : ℕ) → is_among xs v ≡ b → is_among (if b then xs else put xs v) v ≡ true
with_own_by true xs v is = is
with_own_by false xs v is = any_insert (λ (x : ℕ). x == v) xs (rank xs v) v ∙ or_left (v == v) (is_among xs v) (same_number v)

pub with_own : (xs : List ℕ) (v : ℕ) → is_among (with_value xs v) v ≡ true
with_own xs v = with_own_by (is_among xs v) xs v refl

pub with_has : (xs : List ℕ) (v y : ℕ) → is_among xs y ≡ true → is_among (with_value xs v) y ≡ true
with_has xs v y has =
    with_by (λ (ys : List ℕ). is_among ys y ≡ true) (is_among xs v) xs v refl has
    (λ _. any_insert (λ (x : ℕ). x == y) xs (rank xs v) v ∙ or_right (v == y) (is_among xs y) has)

with_longer : (xs : List ℕ) (v : ℕ) → length xs ≤ length (with_value xs v)
with_longer xs v = with_by (λ (ys : List ℕ). length xs ≤ length ys) (is_among xs v) xs v refl (omega arith) (λ _. longer xs (rank xs v) v)

pub with_rising : (xs : List ℕ) (v : ℕ) → Rising 0 xs → Rising 0 (with_value xs v)
with_rising xs v rising = with_by (Rising 0) (is_among xs v) xs v refl rising (λ other. put_rising 0 v xs rising other (omega arith))

-- the two keys that a cell leads to
abbrev pub marked : KeyView → KeyView
marked key = record { styles = key.styles; values = key.values; greatest = key.greatest; none = true }

abbrev pub grown : KeyView → ℕ → KeyView
grown key c = record { styles = key.styles; values = take 9 (with_value key.values c); greatest = max key.greatest c; none = key.none }

pub cell_by : (P : KeyView → Type 0) (key : KeyView) (c : ℕ) (b : Bool) → P (marked key) → P (grown key c) → P (if b then marked key else grown key c)
cell_by P key c true there more = there
cell_by P key c false there more = more

cell_other : (P : KeyView → Type 0) (key : KeyView) (c : ℕ) (b : Bool) → b ≡ false → P (grown key c) → P (if b then marked key else grown key c)
cell_other P key c true is more = absurd (let e : true ≡ false = is in cc)
cell_other P key c false is more = more

-- nine values at most are kept, and no fewer than before
pub record IsMore (xs ys : List ℕ) : Type 0 where
  pub few : length ys ≤ 9
  pub more : length xs ≤ length ys

cell_more : (key : KeyView) (c : ℕ) → length key.values ≤ 9 → IsMore key.values (with_cell key c).values
cell_more key c few =
    cell_by (λ (k : KeyView). IsMore key.values k.values) key c (c == no_value) (record { few = few; more = omega arith })
    (record { few = take_few 9 (with_value key.values c); more = take_longer 9 (length key.values) (with_value key.values c) few (with_longer key.values c) })

pub never_fewer : (cells : List ℕ) (key : KeyView) → length key.values ≤ 9 → length key.values ≤ length (key_from key cells).values
never_fewer [] key few = omega arith
never_fewer (c ∷ cells) key few =
    let step = cell_more key c few in
    omega (arith, step.more, never_fewer cells (with_cell key c) step.few)

pub values_rise : (cells : List ℕ) (key : KeyView) → Rising 0 key.values → Rising 0 (key_from key cells).values
values_rise [] key rising = rising
values_rise (c ∷ cells) key rising =
    values_rise cells (with_cell key c)
    (cell_by (λ (k : KeyView). Rising 0 k.values) key c (c == no_value) rising (take_rising 9 0 (with_value key.values c) (with_rising key.values c rising)))

grown_has : (key : KeyView) (c v : ℕ) → is_among (with_value key.values c) v ≡ true → length (grown key c).values ≤ 8 → is_among (grown key c).values v ≡ true
grown_has key c v has few = subst (λ (ys : List ℕ). is_among ys v ≡ true) (sym (take_short 9 (with_value key.values c) (omega (arith, few)))) has

-- where values are few, those that are kept stay
pub stays : (cells : List ℕ) (key : KeyView) (v : ℕ) → length key.values ≤ 9 → length (key_from key cells).values ≤ 8 → is_among key.values v ≡ true → is_among (key_from key cells).values v ≡ true
stays [] key v few end has = has
stays (c ∷ cells) key v few end has =
    let step = cell_more key c few in
    let less : length (with_cell key c).values ≤ 8 = omega (arith, end, never_fewer cells (with_cell key c) step.few) in
    let kept = cell_by (λ (k : KeyView). length k.values ≤ 8 → is_among k.values v ≡ true) key c (c == no_value) (λ _. has)
    (λ short. grown_has key c v (with_has key.values c v has) short) in
    stays cells (with_cell key c) v step.few end (kept less)

comes_by : (b : Bool) (cells : List ℕ) (key : KeyView) (c v : ℕ) → (c == v) ≡ b → (b || is_among cells v) ≡ true → v ≢ no_value → length key.values ≤ 9 → length (key_from key (c ∷ cells)).values ≤ 8
    → (is_among cells v ≡ true → is_among (key_from key (c ∷ cells)).values v ≡ true) → is_among (key_from key (c ∷ cells)).values v ≡ true
comes_by true cells key c v is has some few end later =
    let same : c ≡ v = grind (arith, nat_tests, is) in
    let other : (c == no_value) ≡ false = grind (arith, nat_tests, same, some) in
    let step = cell_more key c few in
    let less : length (with_cell key c).values ≤ 8 = omega (arith, end, never_fewer cells (with_cell key c) step.few) in
    let kept = cell_other (λ (k : KeyView). length k.values ≤ 8 → is_among k.values c ≡ true) key c (c == no_value) other (λ short. grown_has key c c (with_own key.values c) short) in
    stays cells (with_cell key c) v step.few end (subst (λ (u : ℕ). is_among (with_cell key c).values u ≡ true) same (kept less))
comes_by false cells key c v is has some few end later = later has

-- where values are few, the value of each cell is kept
pub comes : (cells : List ℕ) (key : KeyView) (v : ℕ) → is_among cells v ≡ true → v ≢ no_value → length key.values ≤ 9 → length (key_from key cells).values ≤ 8 → is_among (key_from key cells).values v ≡ true
comes [] key v has some few end = absurd (let e : false ≡ true = has in cc)
comes (c ∷ cells) key v has some few end =
    comes_by (c == v) cells key c v refl has some few end (λ later. comes cells (with_cell key c) v later some (cell_more key c few).few end)

greater : (cells : List ℕ) (key : KeyView) → key.greatest ≤ (key_from key cells).greatest
greater [] key = omega arith
greater (c ∷ cells) key =
    let step = cell_by (λ (k : KeyView). key.greatest ≤ k.greatest) key c (c == no_value) (omega arith) (omega arith) in
    omega (arith, step, greater cells (with_cell key c))

below_by : (b : Bool) (cells : List ℕ) (key : KeyView) (c v : ℕ) → (c == v) ≡ b → (b || is_among cells v) ≡ true → v ≢ no_value
    → (is_among cells v ≡ true → v ≤ (key_from key (c ∷ cells)).greatest) → v ≤ (key_from key (c ∷ cells)).greatest
below_by true cells key c v is has some later =
    let same : c ≡ v = grind (arith, nat_tests, is) in
    let other : (c == no_value) ≡ false = grind (arith, nat_tests, same, some) in
    let step = cell_other (λ (k : KeyView). c ≤ k.greatest) key c (c == no_value) other (omega arith) in
    omega (arith, step, same, greater cells (with_cell key c))
below_by false cells key c v is has some later = later has

-- no value is above the greatest
pub below : (cells : List ℕ) (key : KeyView) (v : ℕ) → is_among cells v ≡ true → v ≢ no_value → v ≤ (key_from key cells).greatest
below [] key v has some = absurd (let e : false ≡ true = has in cc)
below (c ∷ cells) key v has some = below_by (c == v) cells key c v refl has some (λ later. below cells (with_cell key c) v later some)

least_by : (b : Bool) (a x v : ℕ) (xs : List ℕ) → (x == v) ≡ b → a ≤ x → (b || is_among xs v) ≡ true → (is_among xs v ≡ true → x + 1 ≤ v) → a ≤ v
least_by true a x v xs is late has later =
    let same : x ≡ v = grind (arith, nat_tests, is) in
    omega (arith, same, late)
least_by false a x v xs is late has later = omega (arith, late, later has)

pub rising_least : (a v : ℕ) (xs : List ℕ) → Rising a xs → is_among xs v ≡ true → a ≤ v
rising_least a v [] rising has = absurd (let e : false ≡ true = has in cc)
rising_least a v (x ∷ xs) rising has = least_by (x == v) a x v xs refl rising.0 has (λ later. rising_least (x + 1) v xs rising.1 later)

found_here : (b : Bool) (x v : ℕ) (xs : List ℕ) → (x == v) ≡ b → (b || is_among xs v) ≡ true → nat_lt x v ≡ false → (is_among xs v ≡ true → x + 1 ≤ v) → x ≡ v
found_here true x v xs is has more later = grind (arith, nat_tests, is)
found_here false x v xs is has more later = absurd (let above = later has in grind (arith, nat_tests, more, above))

found_later : (b : Bool) (x v : ℕ) (xs : List ℕ) → (x == v) ≡ b → (b || is_among xs v) ≡ true → nat_lt x v ≡ true → is_among xs v ≡ true
found_later true x v xs is has less = absurd (grind (arith, nat_tests, is, less))
found_later false x v xs is has less = has

found_by : (b : Bool) (x v : ℕ) (xs : List ℕ) → nat_lt x v ≡ b → Rising (x + 1) xs → is_among (x ∷ xs) v ≡ true → (is_among xs v ≡ true → slice_index xs (rank xs v) ≡ v) → slice_index (x ∷ xs) (rank (x ∷ xs) v) ≡ v
found_by true x v xs is rising has later =
    ap (slice_index (x ∷ xs)) (rank_less x v xs is) ∙ later (found_later (x == v) x v xs refl has is)
found_by false x v xs is rising has later =
    ap (slice_index (x ∷ xs)) (rank_more x v xs is) ∙ found_here (x == v) x v xs refl has is (λ there. rising_least (x + 1) v xs rising there)

-- of rising values each is found at its place
pub found : (a v : ℕ) (xs : List ℕ) → Rising a xs → is_among xs v ≡ true → slice_index xs (rank xs v) ≡ v
found a v [] rising has = absurd (let e : false ≡ true = has in cc)
found a v (x ∷ xs) rising has = found_by (nat_lt x v) x v xs refl rising.1 has (λ there. found (x + 1) v xs rising.1 there)

pub among : (cells : List ℕ) (v i : ℕ) → i < length cells → v ≡ slice_index_or cells i v → is_among cells v ≡ true
among [] v i inside is = absurd (omega (arith, inside))
among (c ∷ cells) v zero inside is =
    let same : (c == v) ≡ true = grind (arith, nat_tests, is) in
    or_left (c == v) (is_among cells v) same
among (c ∷ cells) v (suc i) inside is = or_right (c == v) (is_among cells v) (among cells v i (omega (arith, inside)) is)

abbrev pub class_by : Bool → Bool → Bool → ℕ → ℕ → ℕ → ℕ
class_by none two few v r s = if none then 24 else if two then v else if few then r else s

apart : (n m b f : Bool) (v w r q s t : ℕ) → f ≡ true → (n ≡ false → b ≡ true → v ≤ 1) → (m ≡ false → b ≡ true → w ≤ 1) → r ≤ 8 → q ≤ 8
    → (n ≡ true → m ≡ true → v ≡ w) → (n ≡ false → m ≡ false → r ≡ q → v ≡ w) → class_by n b f v r s ≡ class_by m b f w q t → v ≡ w
apart n m b false v w r q s t few one two fr fq none some same = absurd (let e : false ≡ true = few in cc)
apart true true b true v w r q s t few one two fr fq none some same = none refl refl
apart true false true true v w r q s t few one two fr fq none some same = absurd (omega (arith, same, two refl refl))
apart true false false true v w r q s t few one two fr fq none some same = absurd (omega (arith, same, fq))
apart false true true true v w r q s t few one two fr fq none some same = absurd (omega (arith, same, one refl refl))
apart false true false true v w r q s t few one two fr fq none some same = absurd (omega (arith, same, fr))
apart false false true true v w r q s t few one two fr fq none some same = same
apart false false false true v w r q s t few one two fr fq none some same = some refl refl same

-- a colour of the palette
shade_small : (n b f : Bool) (v r s : ℕ) → f ≡ true → (n ≡ false → b ≡ true → v ≤ 1) → r ≤ 8 → class_by n b f v r s ≤ 24
shade_small n b false v r s few one fr = absurd (let e : false ≡ true = few in cc)
shade_small true b true v r s few one fr = omega arith
shade_small false true true v r s few one fr = omega (arith, one refl refl)
shade_small false false true v r s few one fr = omega (arith, fr)

-- where a value stands among those with colours of their own, by whether it is the first
own_here : (own : ValueColour) (v : ℕ) (colours : List ValueColour) → (own.value == v) ≡ true → own_place (own ∷ colours) v ≡ 0
own_here own v colours is = ap (λ (b : Bool). cond (not b) (1 + own_place colours v) 0) is

own_later : (own : ValueColour) (v : ℕ) (colours : List ValueColour) → (own.value == v) ≡ false → own_place (own ∷ colours) v ≡ suc (own_place colours v)
own_later own v colours is =
    let e : 1 + own_place colours v ≡ suc (own_place colours v) = omega arith in
    ap (λ (b : Bool). cond (not b) (1 + own_place colours v) 0) is ∙ e

own_by : (a b : Bool) (own : ValueColour) (v w : ℕ) (colours : List ValueColour) → (own.value == v) ≡ a → (own.value == w) ≡ b → own_place (own ∷ colours) v < suc (length colours)
    → own_place (own ∷ colours) v ≡ own_place (own ∷ colours) w → (own_place colours v < length colours → own_place colours v ≡ own_place colours w → v ≡ w) → v ≡ w
own_by true true own v w colours is are inside same later =
    let first : own.value ≡ v = grind (arith, nat_tests, is) in
    let second : own.value ≡ w = grind (arith, nat_tests, are) in
    sym first ∙ second
own_by true false own v w colours is are inside same later = absurd (omega (arith, same, own_here own v colours is, own_later own w colours are))
own_by false true own v w colours is are inside same later = absurd (omega (arith, same, own_later own v colours is, own_here own w colours are))
own_by false false own v w colours is are inside same later =
    let one = own_later own v colours is in
    let other = own_later own w colours are in
    later (omega (arith, inside, one)) (omega (arith, same, one, other))

-- two values at the same place are the same
own_once : (colours : List ValueColour) (v w : ℕ) → own_place colours v < length colours → own_place colours v ≡ own_place colours w → v ≡ w
own_once [] v w inside same = absurd (omega (arith, inside))
own_once (own ∷ colours) v w inside same = own_by (own.value == v) (own.value == w) own v w colours refl refl inside same (own_once colours v w)

-- nine values at most are kept
stays_few : (cells : List ℕ) (key : KeyView) → length key.values ≤ 9 → length (key_from key cells).values ≤ 9
stays_few [] key few = few
stays_few (c ∷ cells) key few = stays_few cells (with_cell key c) (cell_more key c few).few

pub states_few : (styles : StylesView) → length (state_key styles).values ≤ 9
states_few styles = stays_few (range_with_len 0 (state_count styles)) (blank_key styles) (omega arith)

module _ (styles : StylesView) (cells : List ℕ) (few : length (key_of styles cells).values ≤ 8) where
  kept : (v : ℕ) → is_among cells v ≡ true → v ≢ no_value → is_among (key_of styles cells).values v ≡ true
  kept v has some = comes cells (state_key styles) v has some (states_few styles) few

  within : (v : ℕ) → is_among cells v ≡ true → (v == no_value) ≡ false → nat_le (key_of styles cells).greatest 1 ≡ true → v ≤ 1
  within v has other two =
      let some : v ≢ no_value = grind (arith, nat_tests, other) in
      let less = below cells (state_key styles) v has some in
      grind (arith, nat_tests, two, less)

  ranked : (v w : ℕ) → is_among cells v ≡ true → is_among cells w ≡ true → (v == no_value) ≡ false → (w == no_value) ≡ false → rank (key_of styles cells).values v ≡ rank (key_of styles cells).values w → v ≡ w
  ranked v w has_v has_w other_v other_w same =
      let values = (key_of styles cells).values in
      let rising = values_rise cells (state_key styles) (values_rise (range_with_len 0 (state_count styles)) (blank_key styles) tt) in
      let some_v : v ≢ no_value = grind (arith, nat_tests, other_v) in
      let some_w : w ≢ no_value = grind (arith, nat_tests, other_w) in
      sym (found 0 v values rising (kept v has_v some_v)) ∙ ap (slice_index values) same ∙ found 0 w values rising (kept w has_w some_w)

  short : (v : ℕ) → rank (key_of styles cells).values v ≤ 8
  short v = omega (arith, few, prefix_len-le-length (λ (x : ℕ). nat_lt x v) (key_of styles cells).values)

  pub shades_told : (v w : ℕ) → is_among cells v ≡ true → is_among cells w ≡ true → shade_of (key_of styles cells) v ≡ shade_of (key_of styles cells) w → v ≡ w
  shades_told v w has_v has_w same =
      let key = key_of styles cells in
      let all : is_few key ≡ true = grind (arith, nat_tests, few) in
      apart (v == no_value) (w == no_value) (nat_le key.greatest 1) (is_few key) v w (rank key.values v) (rank key.values w) (8 + step_of key v) (8 + step_of key w) all
      (within v has_v) (within w has_w) (short v) (short w) (λ nv nw. grind (arith, nat_tests, nv, nw)) (ranked v w has_v has_w) same

  pub small : (v : ℕ) → is_among cells v ≡ true → shade_of (key_of styles cells) v ≤ 24
  small v has =
      let key = key_of styles cells in
      let all : is_few key ≡ true = grind (arith, nat_tests, few) in
      shade_small (v == no_value) (nat_le key.greatest 1) (is_few key) v (rank key.values v) (8 + step_of key v) all (within v has) (short v)

  -- the class of a value, by whether it has a colour of its own
  abbrev classed : Bool → ℕ → ℕ
  classed own v = if own then class_count + own_place (key_of styles cells).styles.colours v else shade_of (key_of styles cells) v

  told_by : (a b : Bool) (v w : ℕ) → is_among cells v ≡ true → is_among cells w ≡ true → has_own (key_of styles cells).styles.colours v ≡ a → classed a v ≡ classed b w → v ≡ w
  told_by true true v w has_v has_w own same =
      let colours = (key_of styles cells).styles.colours in
      let inside : own_place colours v < length colours = grind (arith, nat_tests, own) in
      own_once colours v w inside (omega (arith, same))
  told_by true false v w has_v has_w own same = absurd (omega (arith, same, small w has_w))
  told_by false true v w has_v has_w own same = absurd (omega (arith, same, small v has_v))
  told_by false false v w has_v has_w own same = shades_told v w has_v has_w same

  told : (v w : ℕ) → is_among cells v ≡ true → is_among cells w ≡ true → class_of (key_of styles cells) v ≡ class_of (key_of styles cells) w → v ≡ w
  told v w has_v has_w same =
      let colours = (key_of styles cells).styles.colours in
      told_by (has_own colours v) (has_own colours w) v w has_v has_w refl same

pub classes_told : (styles : StylesView) (cells : List ℕ) (v w : ℕ) → length (key_of styles cells).values ≤ 8 → IsAmong cells v → IsAmong cells w
    → (class_of (key_of styles cells) v ≡ class_of (key_of styles cells) w) ↔ (v ≡ w)
classes_told styles cells v w few among_v among_w =
    (told styles cells few v w (among cells v among_v.0 among_v.1.0 among_v.1.1) (among cells w among_w.0 among_w.1.0 among_w.1.1), λ same. ap (class_of (key_of styles cells)) same)
