-- Grids.
use Rattle.std.proofs.Common.{◌≡◌, ℕ, ◌+◌, ◌-◌, ◌*◌, ◌≤◌, ◌==◌, Bool, true, false, ◌&&◌, nat_le, nat_lt, [], ◌∷◌, length, length-append, refl, ◌∙◌, arith, zero, suc, if◌then◌else◌}
use Rattle.std.proofs.lemmas.Bool.{and_parts}
use Rattle.std.proofs.lemmas.Bool.Decides.{nat_tests}
use Rattle.std.specs.List.{range_with_len}
use Rattle.std.proofs.lemmas.Nat.{div-mul-add, mod-mul-add}
use Rattle.link_net.specs.Limits.{most_nodes}
use Rattle.link_net.specs.Neighbours.{numbers_below}
use Rattle.net_shapes.specs.declared.shape.Shape.{Shape}
use Rattle.net_shapes.specs.Shapes.{row, column, leads}
use Rattle.net_shapes.specs.Sizes.{has_size, grid_links}
use Rattle.net_shapes.specs.Ahead.{when, place, links_ahead, ahead}
use Rattle.net_shapes.proofs.Ahead.{IsAhead}
use Rattle.net_shapes.proofs.Counts.{length_when, one_more, split_ahead}
use Rattle.net_shapes.proofs.Few.{HasFew}
use Rattle.net_shapes.proofs.Lists.{has-append, has_when, once_two}
use Rattle.net_shapes.proofs.Places.{at_place, column_below, place_test, row_below, low_test}
use Rattle.net_shapes.proofs.Sound.{IsSound}

module _ (w h : ℕ) (wide : 1 ≤ w) where
  -- the node to the right
  pub right_test : (u v : ℕ) → (nat_lt (column w u + 1) w && v == u + 1) ≡ (row w u == row w v && column w u + 1 == column w v)
  right_test u v =
      let here : u + 1 ≡ place w (column w u + 1) (row w u) = omega (arith, at_place w wide u) in
      rw here (tested (column w u) (row w u) v) where
        tested : (x y v : ℕ) → (nat_lt (x + 1) w && v == place w (x + 1) y) ≡ (y == row w v && x + 1 == column w v)
        tested x y v = at (nat_lt (x + 1) w) refl where
          at : (b : Bool) → nat_lt (x + 1) w ≡ b → (b && v == place w (x + 1) y) ≡ (y == row w v && x + 1 == column w v)
          at true e = place_test w wide (x + 1) y v (grind (arith, nat_tests))
          at false e = let low = column_below w wide v in grind (arith, nat_tests)

  -- the node below
  pub down_test : (u v : ℕ) → (v == u + w) ≡ (row w u + 1 == row w v && column w u == column w v)
  down_test u v =
      let here : u + w ≡ place w (column w u) (row w u + 1) = omega (arith, at_place w wide u) in
      rw here (place_test w wide (column w u) (row w u + 1) v (column_below w wide u))

  grid_ahead : IsAhead (w * h) (ahead (Shape.Grid w h)) (leads (Shape.Grid w h))
  grid_ahead = record {
    member = λ u v low.
        let below = row_below w wide h u low in
        rw (
          has-append v (when (nat_lt (column w u + 1) w) (u + 1)) (when (nat_lt (row w u + 1) h) (u + w)),
          has_when (nat_lt (column w u + 1) w) (u + 1) v,
          has_when (nat_lt (row w u + 1) h) (u + w) v,
          right_test u v,
          down_test u v,
          low_test w wide h v,
        )
        (grind (arith, nat_tests));
    once = λ u low. once_two (nat_lt (column w u + 1) w) (nat_lt (row w u + 1) h) (u + 1) (u + w) (λ a b. grind (arith, nat_tests));
    one_way = λ u v a b led. grind (arith, nat_tests);
  }

  grid_few : HasFew (w * h) (leads (Shape.Grid w h))
  grid_few = record {
    near = λ u. (u + 1) ∷ (u + w) ∷ (u - 1) ∷ (u - w) ∷ [];
    few = λ u low. omega arith;
    holds = λ u v a b joined.
        let right = right_test u v in
        let down = down_test u v in
        let left = right_test v u in
        let up = down_test v u in
        grind (arith, nat_tests);
  }

-- how many links lead from the last nodes of a row, each with one below it where the row is not the last
row_links : (w h y i k : ℕ) (v : ℕ) → i + k ≡ w → v ≡ (if nat_lt (y + 1) h then 1 else 0) → length (links_ahead (ahead (Shape.Grid w h)) (range_with_len (y * w + i) k)) ≡ (k - 1) + k * v
row_links w h y i zero v whole one = omega arith
row_links w h y i (suc k) v whole one =
    let start : (y * w + i) + 1 ≡ y * w + (i + 1) = omega arith in
    let rest = row_links w h y (i + 1) k v (omega arith) one in
    let in_row : row w (y * w + i) ≡ y = div-mul-add y w i (omega arith) in
    let in_column : column w (y * w + i) ≡ i = mod-mul-add y w i (omega arith) in
    one_more (ahead (Shape.Grid w h)) (y * w + i) k
    ∙ rw (
      length-append (when (nat_lt (column w (y * w + i) + 1) w) ((y * w + i) + 1)) (when (nat_lt (row w (y * w + i) + 1) h) ((y * w + i) + w)),
      length_when (nat_lt (column w (y * w + i) + 1) w) ((y * w + i) + 1),
      length_when (nat_lt (row w (y * w + i) + 1) h) ((y * w + i) + w),
      in_row,
      in_column,
      start,
      rest,
      ← one,
    )
    (counted w i k v whole) where
      counted : (w i k v : ℕ) → i + suc k ≡ w → ((if nat_lt (i + 1) w then 1 else 0) + v) + ((k - 1) + k * v) ≡ (suc k - 1) + suc k * v
      counted w i zero v whole = grind (arith, nat_tests)
      counted w i (suc k) v whole = grind (arith, nat_tests)

-- how many links lead from the last rows
rows_links : (w h y j : ℕ) → 1 ≤ w → y + j ≡ h → length (links_ahead (ahead (Shape.Grid w h)) (range_with_len (y * w) (j * w))) ≡ j * (w - 1) + w * (j - 1)
rows_links w h y zero wide whole = let none : 0 * w ≡ 0 = omega arith in rw none (omega arith)
rows_links w h y (suc j) wide whole =
    let first : suc j * w ≡ w + j * w = omega arith in
    let start : y * w + 0 ≡ y * w = omega arith in
    let after : y * w + w ≡ (y + 1) * w = omega arith in
    let here = rw start at (row_links w h y 0 w (if nat_lt (y + 1) h then 1 else 0) (omega arith) refl) in
    let rest = rows_links w h (y + 1) j wide (omega arith) in
    rw first (split_ahead (ahead (Shape.Grid w h)) (y * w) w (j * w) ∙ rw (after, here, rest) (counted j wide whole)) where
      counted : (j : ℕ) → 1 ≤ w → y + suc j ≡ h → ((w - 1) + w * (if nat_lt (y + 1) h then 1 else 0)) + (j * (w - 1) + w * (j - 1)) ≡ suc j * (w - 1) + w * (suc j - 1)
      counted zero wide whole = let last : nat_lt (y + 1) h ≡ false = grind (arith, nat_tests) in rw last (omega arith)
      counted (suc j) wide whole =
          let more : nat_lt (y + 1) h ≡ true = grind (arith, nat_tests) in
          let one : suc j - 1 ≡ j = omega arith in
          let two : suc (suc j) - 1 ≡ suc j = omega arith in
          rw (more, one, two) (omega arith)

pub all_links : (w h : ℕ) → 1 ≤ w → length (links_ahead (ahead (Shape.Grid w h)) (numbers_below (w * h))) ≡ grid_links w h
all_links w h wide =
    let turned : w * h ≡ h * w = omega arith in
    let start : 0 * w ≡ 0 = omega arith in
    rw turned (rw start at (rows_links w h 0 h wide (omega arith)) ∙ same h (w - 1)) where
      same : (h p : ℕ) → h * p + w * (h - 1) ≡ p * h + w * (h - 1)
      same h p = omega arith

pub area : (w h : ℕ) → 1 ≤ w → 1 ≤ h → 1 ≤ w * h
area w h a b = search arith

pub grid_sound : (w h : ℕ) → has_size (Shape.Grid w h) ≡ true → IsSound (Shape.Grid w h)
grid_sound w h f =
    let (sides, few) = and_parts (nat_le 1 w && nat_le 1 h) (nat_le (w * h) most_nodes) f in
    let (a, b) = and_parts (nat_le 1 w) (nat_le 1 h) sides in
    let wide : 1 ≤ w = grind (arith, nat_tests) in
    let high : 1 ≤ h = grind (arith, nat_tests) in
    let small : w * h ≤ most_nodes = grind (arith, nat_tests) in
    record {
      some = area w h wide high;
      small = small;
      is_ahead = grid_ahead w h wide;
      has_few = λ bound. grid_few w h wide;
      count = all_links w h wide;
    }
