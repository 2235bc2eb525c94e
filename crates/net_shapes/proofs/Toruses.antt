-- Toruses.
use Rattle.std.proofs.Common.{◌≡◌, ℕ, ◌*◌, ◌<◌, ◌≤◌, ◌==◌, Bool, true, false, ◌||◌, ◌&&◌, nat_le, nat_lt, List, [], ◌∷◌, length, refl, arith, if◌then◌else◌}
use Rattle.std.proofs.lemmas.Bool.{and_parts}
use Rattle.std.proofs.lemmas.Bool.Decides.{nat_tests}
use Rattle.link_net.specs.Limits.{most_nodes, most_neighbours}
use Rattle.link_net.specs.Neighbours.{numbers_below}
use Rattle.net_shapes.specs.declared.shape.Shape.{Shape}
use Rattle.net_shapes.specs.Shapes.{next, row, column, leads}
use Rattle.net_shapes.specs.Sizes.{has_size, torus_links}
use Rattle.net_shapes.specs.Ahead.{prev, place, links_ahead, ahead}
use Rattle.net_shapes.proofs.Ahead.{has, has_twice}
use Rattle.net_shapes.proofs.Counts.{each_ahead}
use Rattle.net_shapes.proofs.Few.{HasFew}
use Rattle.net_shapes.proofs.Places.{column_below, place_test, place_other, row_below, low_test}
use Rattle.net_shapes.proofs.Rings.{next_below, prev_below, next_other, next_one_way, before_is}
use Rattle.net_shapes.proofs.Sound.{IsSound}

-- The tests of a torus on plain numbers: nodes at x, y and at a, b; r comes after x and s after a, p after y and q after b.
abbrev led : Bool → ℕ → ℕ → ℕ → ℕ → ℕ → ℕ → ℕ → Bool
led d x y a b r s p = (y == b && r == a) || (x == a && p == b) || (d && p == b && (r == a || s == x))

-- what stands in the list of the nodes to which a node leads
abbrev listed : Bool → ℕ → ℕ → ℕ → ℕ → ℕ → ℕ → ℕ → Bool
listed true x y a b r s p = (y == b && r == a) || ((p == b && x == a) || ((p == b && r == a) || ((p == b && s == x) || false)))
listed false x y a b r s p = (y == b && r == a) || ((p == b && x == a) || false)

listed_is : (d : Bool) (h x y a b r s p : ℕ) → y < h → p < h → listed d x y a b r s p ≡ (nat_lt b h && led d x y a b r s p)
listed_is true h x y a b r s p low below = grind (arith, nat_tests)
listed_is false h x y a b r s p low below = grind (arith, nat_tests)

-- a torus leads one way, where rings do
led_one_way : (d : Bool) (x y a b r s p q : ℕ)
    → ((r == a) ≡ true → (x == a) ≡ false) → ((s == x) ≡ true → (a == x) ≡ false) → ((r == a) ≡ true → (s == x) ≡ false)
    → ((p == b) ≡ true → (y == b) ≡ false) → ((q == y) ≡ true → (b == y) ≡ false) → ((p == b) ≡ true → (q == y) ≡ false)
    → led d x y a b r s p ≡ true → led d a b x y s r q ≡ false
led_one_way d x y a b r s p q f g h i j k e = grind (arith, nat_tests)

-- the eight nodes near one: l comes before x, t before y
abbrev near_test : ℕ → ℕ → ℕ → ℕ → ℕ → ℕ → ℕ → ℕ → Bool
near_test x y a b r s p q =
    (y == b && r == a) || ((y == b && s == x) || ((p == b && x == a) || ((q == y && x == a) || ((p == b && r == a) || ((p == b && s == x) || ((q == y && r == a) || ((q == y && s == x) || false)))))))

near_if_led : (d : Bool) (x y a b r s p q : ℕ) → (led d x y a b r s p || led d a b x y s r q) ≡ true → near_test x y a b r s p q ≡ true
near_if_led d x y a b r s p q e = grind (arith, nat_tests)

module _ (w h : ℕ) (wide : 3 ≤ w) (high : 3 ≤ h) (d : Bool) where
  some : 1 ≤ w
  some = omega arith

  torus_member : (u v : ℕ) → u < w * h → has v (ahead (Shape.Torus w h d) u) ≡ (nat_lt v (w * h) && leads (Shape.Torus w h d) u v)
  torus_member u v low =
      let x_low = column_below w some u in
      let y_low = row_below w some h u low in
      rw (low_test w some h v)
      (at d (column w u) (row w u) x_low y_low) where
        at : (k : Bool) (x y : ℕ) → x < w → y < h
            → has v (place w (next w x) y ∷ place w x (next h y) ∷ (if k then place w (next w x) (next h y) ∷ place w (prev w x) (next h y) ∷ [] else []))
            ≡ (nat_lt (row w v) h && led k x y (column w v) (row w v) (next w x) (next w (column w v)) (next h y))
        at true x y x_low y_low =
            let right = next_below w wide x x_low in
            let left = prev_below w wide x x_low in
            let below = next_below h high y y_low in
            rw (
              place_test w some (next w x) y v right,
              place_test w some x (next h y) v x_low,
              place_test w some (next w x) (next h y) v right,
              place_test w some (prev w x) (next h y) v left,
              before_is w wide x (column w v) x_low (column_below w some v),
            )
            (listed_is true h x y (column w v) (row w v) (next w x) (next w (column w v)) (next h y) y_low below)
        at false x y x_low y_low =
            let right = next_below w wide x x_low in
            let below = next_below h high y y_low in
            rw (place_test w some (next w x) y v right, place_test w some x (next h y) v x_low)
            (listed_is false h x y (column w v) (row w v) (next w x) (next w (column w v)) (next h y) y_low below)

  -- the nodes of the list differ
  unlike : (n i : ℕ) → 3 ≤ n → i < n → ((next n i == i) ≡ false) × ((i == next n i) ≡ false) × ((next n i == prev n i) ≡ false) × ((i == prev n i) ≡ false)
  unlike n i some low = (grind (arith, nat_tests), grind (arith, nat_tests), grind (arith, nat_tests), grind (arith, nat_tests))

  torus_once : (u : ℕ) → u < w * h → has_twice (ahead (Shape.Torus w h d) u) ≡ false
  torus_once u low = at d (column w u) (row w u) (column_below w some u) (row_below w some h u low) where
    at : (k : Bool) (x y : ℕ) → x < w → y < h
        → has_twice (place w (next w x) y ∷ place w x (next h y) ∷ (if k then place w (next w x) (next h y) ∷ place w (prev w x) (next h y) ∷ [] else [])) ≡ false
    at true x y x_low y_low =
        let right = next_below w wide x x_low in
        let left = prev_below w wide x x_low in
        let across = unlike w x wide x_low in
        let down = unlike h y high y_low in
        rw (
          place_other w some (next w x) y x (next h y) right x_low (grind (arith, nat_tests)),
          place_other w some (next w x) y (next w x) (next h y) right right (grind (arith, nat_tests)),
          place_other w some (next w x) y (prev w x) (next h y) right left (grind (arith, nat_tests)),
          place_other w some x (next h y) (next w x) (next h y) x_low right (grind (arith, nat_tests)),
          place_other w some x (next h y) (prev w x) (next h y) x_low left (grind (arith, nat_tests)),
          place_other w some (next w x) (next h y) (prev w x) (next h y) right left (grind (arith, nat_tests)),
        )
        refl
    at false x y x_low y_low =
        let right = next_below w wide x x_low in
        let across = unlike w x wide x_low in
        rw (place_other w some (next w x) y x (next h y) right x_low (grind (arith, nat_tests))) refl

  torus_one_way : (u v : ℕ) → u < w * h → v < w * h → leads (Shape.Torus w h d) u v ≡ true → leads (Shape.Torus w h d) v u ≡ false
  torus_one_way u v low below e =
      let x_low = column_below w some u in
      let a_low = column_below w some v in
      let y_low = row_below w some h u low in
      let b_low = row_below w some h v below in
      led_one_way d (column w u) (row w u) (column w v) (row w v) (next w (column w u)) (next w (column w v)) (next h (row w u)) (next h (row w v))
      (next_other w wide (column w u) (column w v) x_low a_low) (next_other w wide (column w v) (column w u) a_low x_low) (next_one_way w wide (column w u) (column w v) x_low a_low)
      (next_other h high (row w u) (row w v) y_low b_low) (next_other h high (row w v) (row w u) b_low y_low) (next_one_way h high (row w u) (row w v) y_low b_low)
      e

  -- the nodes near the one at a column and a row
  eight : ℕ → ℕ → List ℕ
  eight x y =
      place w (next w x) y ∷ place w (prev w x) y ∷ place w x (next h y) ∷ place w x (prev h y)
      ∷ place w (next w x) (next h y) ∷ place w (prev w x) (next h y) ∷ place w (next w x) (prev h y) ∷ place w (prev w x) (prev h y) ∷ []

  eight_few : (x y : ℕ) → length (eight x y) ≤ most_neighbours
  unfolding eight
  eight_few x y = omega arith

  eight_has : (x y v : ℕ) → x < w → y < h → row w v < h
      → has v (eight x y) ≡ near_test x y (column w v) (row w v) (next w x) (next w (column w v)) (next h y) (next h (row w v))
  unfolding eight
  eight_has x y v x_low y_low b_low =
      let right = next_below w wide x x_low in
      let left = prev_below w wide x x_low in
      rw (
        place_test w some (next w x) y v right,
        place_test w some (prev w x) y v left,
        place_test w some x (next h y) v x_low,
        place_test w some x (prev h y) v x_low,
        place_test w some (next w x) (next h y) v right,
        place_test w some (prev w x) (next h y) v left,
        place_test w some (next w x) (prev h y) v right,
        place_test w some (prev w x) (prev h y) v left,
        before_is w wide x (column w v) x_low (column_below w some v),
        before_is h high y (row w v) y_low b_low,
      )
      refl

  torus_few : HasFew (w * h) (leads (Shape.Torus w h d))
  torus_few = record {
    near = λ u. eight (column w u) (row w u);
    few = λ u low. eight_few (column w u) (row w u);
    holds = λ u v low below joined.
        rw (eight_has (column w u) (row w u) v (column_below w some u) (row_below w some h u low) (row_below w some h v below))
        (near_if_led d (column w u) (row w u) (column w v) (row w v) (next w (column w u)) (next w (column w v)) (next h (row w u)) (next h (row w v)) joined);
  }

all_links : (w h : ℕ) (d : Bool) → length (links_ahead (ahead (Shape.Torus w h d)) (numbers_below (w * h))) ≡ torus_links w h d
all_links w h true = omega (arith, each_ahead (ahead (Shape.Torus w h true)) 4 0 (w * h) (λ u from. refl))
all_links w h false = omega (arith, each_ahead (ahead (Shape.Torus w h false)) 2 0 (w * h) (λ u from. refl))

area : (w h : ℕ) → 3 ≤ w → 3 ≤ h → 1 ≤ w * h
area w h a b = search arith

pub torus_sound : (w h : ℕ) (d : Bool) → has_size (Shape.Torus w h d) ≡ true → IsSound (Shape.Torus w h d)
torus_sound w h d f =
    let (sides, few) = and_parts (nat_le 3 w && nat_le 3 h) (nat_le (w * h) most_nodes) f in
    let (a, b) = and_parts (nat_le 3 w) (nat_le 3 h) sides in
    let wide : 3 ≤ w = grind (arith, nat_tests) in
    let high : 3 ≤ h = grind (arith, nat_tests) in
    let small : w * h ≤ most_nodes = grind (arith, nat_tests) in
    record {
      some = area w h wide high;
      small = small;
      is_ahead = record { member = torus_member w h wide high d; once = torus_once w h wide high d; one_way = torus_one_way w h wide high d };
      has_few = λ bound. torus_few w h wide high d;
      count = all_links w h d;
    }
