-- Grids with diagonals.
use Rattle.std.proofs.Common.{◌≡◌, ℕ, ◌+◌, ◌-◌, ◌*◌, ◌%◌, ◌<◌, ◌≤◌, ◌==◌, Bool, true, false, ◌&&◌, ◌||◌, nat_le, nat_lt, max, List, [], ◌∷◌, ◌++◌, length, length-append, refl, ◌∙◌, inl, inr, arith, zero, suc, if◌then◌else◌}
use Rattle.std.proofs.lemmas.Bool.{and_parts, cases_Bool}
use Rattle.std.proofs.lemmas.Bool.Decides.{nat_tests}
use Rattle.std.specs.List.{range_with_len}
use Rattle.std.proofs.lemmas.Nat.{div-mul-add, mod-mul-add}
use Rattle.link_net.specs.Limits.{most_nodes}
use Rattle.link_net.specs.Neighbours.{numbers_below}
use Rattle.net_shapes.specs.declared.shape.Shape.{Shape}
use Rattle.net_shapes.specs.Shapes.{row, column, leads, slants_left, slants_right}
use Rattle.net_shapes.specs.Sizes.{has_size, diagonal_links}
use Rattle.net_shapes.specs.Ahead.{when, place, slanted, links_ahead, ahead}
use Rattle.net_shapes.proofs.Ahead.{has, has_twice, IsAhead}
use Rattle.net_shapes.proofs.Counts.{length_when, one_more, split_ahead}
use Rattle.net_shapes.proofs.Few.{HasFew}
use Rattle.net_shapes.proofs.Grids.{all_links, area, down_test, right_test}
use Rattle.net_shapes.proofs.Lists.{has-append, has_when}
use Rattle.net_shapes.proofs.Places.{at_place, column_below, place_test, row_below, low_test}
use Rattle.net_shapes.proofs.Sound.{IsSound}

-- at most four nodes, no two of which are the same where both are wanted
once_four : (a b c d : Bool) (x y z t : ℕ) → (a ≡ true → b ≡ true → (x == y) ≡ false) → (a ≡ true → c ≡ true → (x == z) ≡ false) → (a ≡ true → d ≡ true → (x == t) ≡ false)
    → (b ≡ true → c ≡ true → (y == z) ≡ false) → (b ≡ true → d ≡ true → (y == t) ≡ false) → (c ≡ true → d ≡ true → (z == t) ≡ false)
    → has_twice ((when a x ++ when b y) ++ (when c z ++ when d t)) ≡ false
once_four true true true true x y z t xy xz xt yz yt zt =
    let p = xy refl refl in let q = xz refl refl in let r = xt refl refl in let s = yz refl refl in let v = yt refl refl in let w = zt refl refl in grind (arith, nat_tests)
once_four true true true false x y z t xy xz xt yz yt zt = let p = xy refl refl in let q = xz refl refl in let s = yz refl refl in grind (arith, nat_tests)
once_four true true false true x y z t xy xz xt yz yt zt = let p = xy refl refl in let r = xt refl refl in let v = yt refl refl in grind (arith, nat_tests)
once_four true true false false x y z t xy xz xt yz yt zt = let p = xy refl refl in grind (arith, nat_tests)
once_four true false true true x y z t xy xz xt yz yt zt = let q = xz refl refl in let r = xt refl refl in let w = zt refl refl in grind (arith, nat_tests)
once_four true false true false x y z t xy xz xt yz yt zt = let q = xz refl refl in grind (arith, nat_tests)
once_four true false false true x y z t xy xz xt yz yt zt = let r = xt refl refl in grind (arith, nat_tests)
once_four true false false false x y z t xy xz xt yz yt zt = refl
once_four false true true true x y z t xy xz xt yz yt zt = let s = yz refl refl in let v = yt refl refl in let w = zt refl refl in grind (arith, nat_tests)
once_four false true true false x y z t xy xz xt yz yt zt = let s = yz refl refl in grind (arith, nat_tests)
once_four false true false true x y z t xy xz xt yz yt zt = let v = yt refl refl in grind (arith, nat_tests)
once_four false true false false x y z t xy xz xt yz yt zt = refl
once_four false false true true x y z t xy xz xt yz yt zt = let w = zt refl refl in grind (arith, nat_tests)
once_four false false true false x y z t xy xz xt yz yt zt = refl
once_four false false false true x y z t xy xz xt yz yt zt = refl
once_four false false false false x y z t xy xz xt yz yt zt = refl

regroup : (d s c v : Bool) → ((d && (s && c)) && v) ≡ (d && (s && (c && v)))
regroup true true true v = refl
regroup true true false v = refl
regroup true false c v = refl
regroup false s c v = refl

-- what a link leads to, by rows and columns, where it leads down right and left as these say
member_is : (y x b a h : ℕ) (right left : Bool) → y < h
    → (((y == b && x + 1 == a) || (nat_lt (y + 1) h && (y + 1 == b && x == a))) || ((nat_lt (y + 1) h && (right && (y + 1 == b && x + 1 == a))) || (nat_lt (y + 1) h && (left && (y + 1 == b && a + 1 == x)))))
    ≡ (nat_lt b h && ((y == b && x + 1 == a) || (x == a && y + 1 == b) || (y + 1 == b && ((right && x + 1 == a) || (left && a + 1 == x)))))
member_is y x b a h true true low = grind (arith, nat_tests)
member_is y x b a h true false low = grind (arith, nat_tests)
member_is y x b a h false true low = grind (arith, nat_tests)
member_is y x b a h false false low = grind (arith, nat_tests)

one_way_is : (y x b a : ℕ) (right left back_right back_left : Bool) → ((y == b && x + 1 == a) || (x == a && y + 1 == b) || (y + 1 == b && ((right && x + 1 == a) || (left && a + 1 == x)))) ≡ true
    → ((b == y && a + 1 == x) || (a == x && b + 1 == y) || (b + 1 == y && ((back_right && a + 1 == x) || (back_left && x + 1 == a)))) ≡ false
one_way_is y x b a right left back_right back_left led =
    elim (cases_Bool (y == b)) [
      | inl same ↦ let e : y ≡ b = grind (arith, nat_tests) in grind (arith, nat_tests)
      | inr other ↦ let e : y + 1 ≡ b = grind (arith, nat_tests) in let n : (b + 1 == y) ≡ false = grind (arith, nat_tests) in let m : (b == y) ≡ false = grind (arith, nat_tests) in rw (n, m) (last (a == x))
    ] where
      last : (k : Bool) → ((false && a + 1 == x) || (k && false) || (false && ((back_right && a + 1 == x) || (back_left && x + 1 == a)))) ≡ false
      last true = refl
      last false = refl

module _ (w h : ℕ) (wide : 1 ≤ w) (hexagons : Bool) where
  -- the nodes beside the one below
  right_below : (u v : ℕ) → (nat_lt (column w u + 1) w && v == u + w + 1) ≡ (row w u + 1 == row w v && column w u + 1 == column w v)
  right_below u v =
      let here : u + w + 1 ≡ place w (column w u + 1) (row w u + 1) = omega (arith, at_place w wide u) in
      rw here (tested (column w u) (row w u + 1) v) where
        tested : (x y v : ℕ) → (nat_lt (x + 1) w && v == place w (x + 1) y) ≡ (y == row w v && x + 1 == column w v)
        tested x y v = at (nat_lt (x + 1) w) refl where
          at : (b : Bool) → nat_lt (x + 1) w ≡ b → (b && v == place w (x + 1) y) ≡ (y == row w v && x + 1 == column w v)
          at true e = place_test w wide (x + 1) y v (grind (arith, nat_tests))
          at false e = let low = column_below w wide v in grind (arith, nat_tests)

  left_below : (u v : ℕ) → (nat_lt 0 (column w u) && v == u + w - 1) ≡ (row w u + 1 == row w v && column w v + 1 == column w u)
  left_below u v = tested (column w u) refl where
    tested : (x : ℕ) → column w u ≡ x → (nat_lt 0 x && v == u + w - 1) ≡ (row w u + 1 == row w v && column w v + 1 == x)
    tested zero e = grind (arith, nat_tests)
    tested (suc x) e =
        let stands = at_place w wide u in
        let low = column_below w wide u in
        let here : u + w - 1 ≡ place w x (row w u + 1) = omega (arith, stands, e) in
        let next : (column w v + 1 == suc x) ≡ (x == column w v) = grind (arith, nat_tests) in
        let above : nat_lt 0 (suc x) ≡ true = grind (arith, nat_tests) in
        rw (above, here, next) (place_test w wide x (row w u + 1) v (omega (arith, low, e)))

  diagonal_ahead : IsAhead (w * h) (ahead (Shape.DiagonalGrid w h hexagons)) (leads (Shape.DiagonalGrid w h hexagons))
  diagonal_ahead = record {
    member = λ u v low.
        let below = row_below w wide h u low in
        let right = slants_right hexagons (row w u) in
        let left = slants_left hexagons (row w u) in
        let inner = nat_lt (row w u + 1) h in
        rw (
          has-append v (when (nat_lt (column w u + 1) w) (u + 1) ++ when inner (u + w)) (slanted w h hexagons u),
          has-append v (when (nat_lt (column w u + 1) w) (u + 1)) (when inner (u + w)),
          has-append v (when (inner && (right && nat_lt (column w u + 1) w)) (u + w + 1)) (when (inner && (left && nat_lt 0 (column w u))) (u + w - 1)),
          has_when (nat_lt (column w u + 1) w) (u + 1) v,
          has_when inner (u + w) v,
          has_when (inner && (right && nat_lt (column w u + 1) w)) (u + w + 1) v,
          has_when (inner && (left && nat_lt 0 (column w u))) (u + w - 1) v,
          regroup inner right (nat_lt (column w u + 1) w) (v == u + w + 1),
          regroup inner left (nat_lt 0 (column w u)) (v == u + w - 1),
          right_test w h wide u v,
          down_test w h wide u v,
          right_below u v,
          left_below u v,
          low_test w wide h v,
        )
        (member_is (row w u) (column w u) (row w v) (column w v) h right left below);
    once = λ u low.
        let right = slants_right hexagons (row w u) in
        let left = slants_left hexagons (row w u) in
        let inner = nat_lt (row w u + 1) h in
        once_four (nat_lt (column w u + 1) w) inner (inner && (right && nat_lt (column w u + 1) w)) (inner && (left && nat_lt 0 (column w u))) (u + 1) (u + w) (u + w + 1) (u + w - 1)
        (λ a b. grind (arith, nat_tests)) (λ a b. grind (arith, nat_tests)) (λ a b. apart u (column w u) inner left a b) (λ a b. grind (arith, nat_tests)) (λ a b. grind (arith, nat_tests)) (λ a b. grind (arith, nat_tests));
    one_way = λ u v a b led. one_way_is (row w u) (column w u) (row w v) (column w v) (slants_right hexagons (row w u)) (slants_left hexagons (row w u)) (slants_right hexagons (row w v)) (slants_left hexagons (row w v)) led;
  } where
    apart : (u x : ℕ) (inner left : Bool) → nat_lt (x + 1) w ≡ true → (inner && (left && nat_lt 0 x)) ≡ true → (u + 1 == u + w - 1) ≡ false
    apart u x inner left a b =
        let some = (and_parts left (nat_lt 0 x) (and_parts inner (left && nat_lt 0 x) b).1).1 in
        grind (arith, nat_tests)

  -- where a link leads
  led : (u v : ℕ) → leads (Shape.DiagonalGrid w h hexagons) u v ≡ true → has v ((u + 1) ∷ (u + w) ∷ (u + w + 1) ∷ (u + w - 1) ∷ []) ≡ true
  led u v joined =
      let right = right_test w h wide u v in
      let down = down_test w h wide u v in
      let below_right = right_below u v in
      let below_left = left_below u v in
      grind (arith, nat_tests)

  diagonal_few : HasFew (w * h) (leads (Shape.DiagonalGrid w h hexagons))
  diagonal_few = record {
    near = λ u. (u + 1) ∷ (u + w) ∷ (u + w + 1) ∷ (u + w - 1) ∷ (u - 1) ∷ (u - w) ∷ (u - w - 1) ∷ (u + 1 - w) ∷ [];
    few = λ u low. omega arith;
    holds = λ u v a b joined.
        elim (cases_Bool (leads (Shape.DiagonalGrid w h hexagons) u v)) [
          | inl there ↦ let near = led u v there in grind (arith, nat_tests)
          | inr none ↦ let near = led v u (rw none at joined) in grind (arith, nat_tests)
        ];
  }

-- two lists from each node
both_ahead : (f g : ℕ → List ℕ) (a k : ℕ) → length (links_ahead (λ u. f u ++ g u) (range_with_len a k)) ≡ length (links_ahead f (range_with_len a k)) + length (links_ahead g (range_with_len a k))
both_ahead f g a zero = refl
both_ahead f g a (suc k) =
    let rest = both_ahead f g (a + 1) k in
    let all = one_more (λ u. f u ++ g u) a k in
    let first = one_more f a k in
    let second = one_more g a k in
    let here = length-append (f a) (g a) in
    omega (arith, rest, all, first, second, here)

-- how many links slant down from the last nodes of a row
slants : (w i k : ℕ) (p q : Bool) → i + suc k ≡ w
    → ((if p && nat_lt (i + 1) w then 1 else 0) + (if q && nat_lt 0 i then 1 else 0)) + ((if p then k - 1 else 0) + (if q then w - max (i + 1) 1 else 0)) ≡ (if p then suc k - 1 else 0) + (if q then w - max i 1 else 0)
slants w zero zero p q whole = at p q where
  at : (p q : Bool) → ((if p && nat_lt (0 + 1) w then 1 else 0) + (if q && nat_lt 0 0 then 1 else 0)) + ((if p then 0 - 1 else 0) + (if q then w - max (0 + 1) 1 else 0)) ≡ (if p then 1 - 1 else 0) + (if q then w - max 0 1 else 0)
  at true true = grind (arith, nat_tests)
  at true false = grind (arith, nat_tests)
  at false true = grind (arith, nat_tests)
  at false false = refl
slants w i k true true whole = grind (arith, nat_tests)
slants w i k true false whole = grind (arith, nat_tests)
slants w i k false true whole = grind (arith, nat_tests)
slants w i k false false whole = omega arith

row_slants : (w h y i k : ℕ) (x : Bool) → i + k ≡ w
    → length (links_ahead (slanted w h x) (range_with_len (y * w + i) k)) ≡ (if nat_lt (y + 1) h && slants_right x y then k - 1 else 0) + (if nat_lt (y + 1) h && slants_left x y then w - max i 1 else 0)
row_slants w h y i zero x whole = nothing (nat_lt (y + 1) h && slants_right x y) (nat_lt (y + 1) h && slants_left x y) where
  nothing : (p q : Bool) → 0 ≡ (if p then 0 - 1 else 0) + (if q then w - max i 1 else 0)
  nothing true true = omega arith
  nothing true false = omega arith
  nothing false true = omega arith
  nothing false false = omega arith
row_slants w h y i (suc k) x whole =
    let start : (y * w + i) + 1 ≡ y * w + (i + 1) = omega arith in
    let rest = row_slants w h y (i + 1) k x (omega arith) in
    let in_row : row w (y * w + i) ≡ y = div-mul-add y w i (omega arith) in
    let in_column : column w (y * w + i) ≡ i = mod-mul-add y w i (omega arith) in
    let inner = nat_lt (y + 1) h in
    one_more (slanted w h x) (y * w + i) k
    ∙ rw (in_row, in_column) (
    rw (
      length-append (when (inner && (slants_right x y && nat_lt (i + 1) w)) ((y * w + i) + w + 1)) (when (inner && (slants_left x y && nat_lt 0 i)) ((y * w + i) + w - 1)),
      length_when (inner && (slants_right x y && nat_lt (i + 1) w)) ((y * w + i) + w + 1),
      length_when (inner && (slants_left x y && nat_lt 0 i)) ((y * w + i) + w - 1),
      start,
      rest,
      grouped inner (slants_right x y) (nat_lt (i + 1) w),
      grouped inner (slants_left x y) (nat_lt 0 i),
    )
    (slants w i k (inner && slants_right x y) (inner && slants_left x y) whole)
    ) where
      grouped : (d s c : Bool) → (d && (s && c)) ≡ ((d && s) && c)
      grouped true s c = refl
      grouped false s c = refl

-- how many slant down from a row that is not the last
abbrev each_row : ℕ → Bool → ℕ
each_row w x = if x then w - 1 else 2 * (w - 1)

row_all : (w h y : ℕ) (x : Bool) → 1 ≤ w → length (links_ahead (slanted w h x) (range_with_len (y * w) w)) ≡ (if nat_lt (y + 1) h then each_row w x else 0)
row_all w h y x wide =
    let start : y * w + 0 ≡ y * w = omega arith in
    rw start at (row_slants w h y 0 w x (omega arith)) ∙ sides (nat_lt (y + 1) h) x where
      sides : (d x : Bool) → (if d && slants_right x y then w - 1 else 0) + (if d && slants_left x y then w - max 0 1 else 0) ≡ (if d then each_row w x else 0)
      sides true false = omega arith
      sides false x = refl
      sides true true = elim (cases_Bool (y % 2 == 1)) [
        | inl odd ↦ let even : (y % 2 == 0) ≡ false = grind (arith, nat_tests) in rw (odd, even) (omega arith)
        | inr other ↦ let even : (y % 2 == 0) ≡ true = grind (arith, nat_tests) in rw (other, even) (omega arith)
      ]

rows_all : (w h y j : ℕ) (x : Bool) → 1 ≤ w → y + j ≡ h → length (links_ahead (slanted w h x) (range_with_len (y * w) (j * w))) ≡ each_row w x * (j - 1)
rows_all w h y zero x wide whole = let none : 0 * w ≡ 0 = omega arith in rw none (omega arith)
rows_all w h y (suc j) x wide whole =
    let first : suc j * w ≡ w + j * w = omega arith in
    let after : y * w + w ≡ (y + 1) * w = omega arith in
    let here = row_all w h y x wide in
    let rest = rows_all w h (y + 1) j x wide (omega arith) in
    rw first (split_ahead (slanted w h x) (y * w) w (j * w) ∙ rw (after, here, rest) (counted (each_row w x) j whole)) where
      counted : (each j : ℕ) → y + suc j ≡ h → (if nat_lt (y + 1) h then each else 0) + each * (j - 1) ≡ each * (suc j - 1)
      counted each zero whole = let last : nat_lt (y + 1) h ≡ false = grind (arith, nat_tests) in rw last (omega arith)
      counted each (suc j) whole =
          let more : nat_lt (y + 1) h ≡ true = grind (arith, nat_tests) in
          let one : suc j - 1 ≡ j = omega arith in
          let two : suc (suc j) - 1 ≡ suc j = omega arith in
          rw (more, one, two) (omega arith)

slanted_all : (w h : ℕ) (x : Bool) → 1 ≤ w → length (links_ahead (slanted w h x) (numbers_below (w * h))) ≡ (if x then (w - 1) * (h - 1) else 2 * ((w - 1) * (h - 1)))
slanted_all w h x wide =
    let turned : w * h ≡ h * w = omega arith in
    let start : 0 * w ≡ 0 = omega arith in
    rw turned (rw start at (rows_all w h 0 h x wide (omega arith)) ∙ same x (w - 1) (h - 1)) where
      same : (x : Bool) (p q : ℕ) → (if x then p else 2 * p) * q ≡ (if x then p * q else 2 * (p * q))
      same true p q = refl
      same false p q = omega arith

diagonal_links_all : (w h : ℕ) (x : Bool) → 1 ≤ w → length (links_ahead (ahead (Shape.DiagonalGrid w h x)) (numbers_below (w * h))) ≡ diagonal_links w h x
diagonal_links_all w h x wide =
    both_ahead (ahead (Shape.Grid w h)) (slanted w h x) 0 (w * h)
    ∙ rw (all_links w h wide, slanted_all w h x wide) refl

pub diagonal_sound : (w h : ℕ) (x : Bool) → has_size (Shape.DiagonalGrid w h x) ≡ true → IsSound (Shape.DiagonalGrid w h x)
diagonal_sound w h x f =
    let (sides, few) = and_parts (nat_le 1 w && nat_le 1 h) (nat_le (w * h) most_nodes) f in
    let (a, b) = and_parts (nat_le 1 w) (nat_le 1 h) sides in
    let wide : 1 ≤ w = grind (arith, nat_tests) in
    let high : 1 ≤ h = grind (arith, nat_tests) in
    let small : w * h ≤ most_nodes = grind (arith, nat_tests) in
    record {
      some = area w h wide high;
      small = small;
      is_ahead = diagonal_ahead w h wide x;
      has_few = λ bound. diagonal_few w h wide x;
      count = diagonal_links_all w h x wide;
    }
