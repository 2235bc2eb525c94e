-- The neighbours of a node of a frame: those near it, row by row.
use Rattle.std.proofs.Common.{◌≡◌, ◌∙◌, ℕ, ◌+◌, ◌*◌, ◌<◌, ◌≤◌, ◌==◌, Bool, true, false, ◌&&◌, ◌||◌, not, List, [], ◌∷◌, refl, sym, arith, inl, inr, if◌then◌else◌}
use Rattle.std.specs.List.{AllByRecursion, list_any}
use Rattle.std.proofs.lemmas.Bool.{cases_Bool}
use Rattle.std.proofs.lemmas.Bool.Decides.{nat_tests}
use Rattle.std.proofs.lemmas.List.Elements.{recursion_from_All}
use Rattle.std.proofs.lemmas.List.Folds.{list_any-append}
use Rattle.net_shapes.specs.Shapes.{row, column}
use Rattle.net_shapes.specs.declared.large.axis.Axis.{Axis}
use Rattle.net_shapes.specs.declared.large.frame.Frame.{Frame}
use Rattle.net_shapes.specs.declared.large.spot.Spot.{Spot}
use Rattle.net_shapes.specs.Frames.{Rises, AreNear, IsAxis, IsFrame, are_beside, frame_joins, frame_nodes, is_kept, in_row, around, slants}
use Rattle.net_shapes.specs.Rows.{joined_with}
use Rattle.net_shapes.proofs.LargePlaces.{column_below, row_below, place_test}
use Rattle.net_shapes.proofs.Rising.{AllBetween, all-append, rises-append, rising-filter}

module _ (s : Spot) where
  row_above : (cs : List ℕ) (a b : ℕ) → AllByRecursion (λ c. a < c) cs → AllByRecursion (λ y. b * s.width + a < y) (in_row s cs b)
  row_above [] a b above = tt
  row_above (c ∷ cs) a b above =
      elim (cases_Bool (is_kept s c b)) [
        | inl keeps ↦ rw keeps (omega (arith, above.0), row_above cs a b above.1)
        | inr drops ↦ rw drops (row_above cs a b above.1)
      ]

  row_rises : (cs : List ℕ) (b : ℕ) → Rises cs → Rises (in_row s cs b)
  row_rises [] b up = tt
  row_rises (c ∷ cs) b up =
      elim (cases_Bool (is_kept s c b)) [
        | inl keeps ↦ rw keeps (row_above cs c b up.0, row_rises cs b up.1)
        | inr drops ↦ rw drops (row_rises cs b up.1)
      ]

  -- the numbers of a row
  row_between : (cs : List ℕ) (b : ℕ) → AllByRecursion (λ c. c < s.width) cs → AllBetween (b * s.width) ((b + 1) * s.width) (in_row s cs b)
  row_between [] b below = tt
  row_between (c ∷ cs) b below =
      elim (cases_Bool (is_kept s c b)) [
        | inl keeps ↦ rw keeps ((omega arith, omega (arith, below.0)), row_between cs b below.1)
        | inr drops ↦ rw drops (row_between cs b below.1)
      ]

  -- which nodes stand in a row
  row_has : (cs : List ℕ) (b q : ℕ) → 1 ≤ s.width → AllByRecursion (λ c. c < s.width) cs
      → list_any (λ z. q == z) (in_row s cs b) ≡ (row s.width q == b && (list_any (λ c. column s.width q == c) cs && is_kept s (column s.width q) b))
  row_has [] b q wide below = none (row s.width q == b) where
    none : (x : Bool) → false ≡ (x && false)
    none x = grind (arith, nat_tests)
  row_has (c ∷ cs) b q wide below =
      let rest = row_has cs b q wide below.1 in
      let here = place_test s.width wide c b q below.0 in
      elim (cases_Bool (is_kept s c b)) [
        | inl keeps ↦ rw (keeps, here, rest) (kept (row s.width q) (column s.width q) (list_any (λ c. column s.width q == c) cs) keeps)
        | inr drops ↦ rw (drops, rest) (dropped (row s.width q) (column s.width q) (list_any (λ c. column s.width q == c) cs) drops)
      ] where
        kept : (y x : ℕ) (k : Bool) → is_kept s c b ≡ true → ((y == b && x == c) || (y == b && (k && is_kept s x b))) ≡ (y == b && ((x == c || k) && is_kept s x b))
        kept y x k keeps =
            elim (cases_Bool (x == c)) [
              | inl same ↦ let is : x ≡ c = grind (arith, nat_tests) in rw (is, keeps) (grind (arith, nat_tests))
              | inr other ↦ rw other (grind (arith, nat_tests))
            ]

        dropped : (y x : ℕ) (k : Bool) → is_kept s c b ≡ false → (y == b && (k && is_kept s x b)) ≡ (y == b && ((x == c || k) && is_kept s x b))
        dropped y x k drops =
            elim (cases_Bool (x == c)) [
              | inl same ↦ let is : x ≡ c = grind (arith, nat_tests) in rw (is, drops) (grind (arith, nat_tests))
              | inr other ↦ rw other refl
            ]

  module _ (cs : List ℕ) (wide : 1 ≤ s.width) (below : AllByRecursion (λ c. c < s.width) cs) where
    -- which nodes stand in the rows
    around_has : (bs : List ℕ) (q : ℕ)
        → list_any (λ z. q == z) (around s cs bs) ≡ (list_any (λ b. row s.width q == b) bs && (list_any (λ c. column s.width q == c) cs && is_kept s (column s.width q) (row s.width q)))
    around_has [] q = refl
    around_has (b ∷ bs) q =
        list_any-append (λ z. q == z) (in_row s cs b) (around s cs bs)
        ∙ rw (row_has cs b q wide below, around_has bs q) (gathered (row s.width q) (column s.width q) (list_any (λ b. row s.width q == b) bs) (list_any (λ c. column s.width q == c) cs)) where
          gathered : (y x : ℕ) (r k : Bool) → ((y == b && (k && is_kept s x b)) || (r && (k && is_kept s x y))) ≡ ((y == b || r) && (k && is_kept s x y))
          gathered y x r k =
              elim (cases_Bool (y == b)) [
                | inl same ↦ let is : y ≡ b = grind (arith, nat_tests) in rw is (twice b x r k)
                | inr other ↦ rw other refl
              ] where
                twice : (b x : ℕ) (r k : Bool) → ((b == b && (k && is_kept s x b)) || (r && (k && is_kept s x b))) ≡ ((b == b || r) && (k && is_kept s x b))
                twice b x r k = absorbed (b == b) (grind (arith, nat_tests)) r (k && is_kept s x b) where
                  absorbed : (e : Bool) → e ≡ true → (r t : Bool) → ((e && t) || (r && t)) ≡ ((e || r) && t)
                  absorbed e is r t = grind (arith, nat_tests)

    mul_up : (m b w : ℕ) → m ≤ b → m * w ≤ b * w
    mul_up m b w up = grind arith

    -- the rows from m on
    from_row : (m : ℕ) (bs : List ℕ) → AllByRecursion (λ b. m ≤ b) bs → AllByRecursion (λ y. m * s.width ≤ y) (around s cs bs)
    from_row m [] above = tt
    from_row m (b ∷ bs) above =
        all-append (λ y. m * s.width ≤ y) (in_row s cs b) (around s cs bs) (raised (in_row s cs b) (row_between cs b below)) (from_row m bs above.1) where
          raised : (ys : List ℕ) → AllBetween (b * s.width) ((b + 1) * s.width) ys → AllByRecursion (λ y. m * s.width ≤ y) ys
          raised [] within = tt
          raised (y ∷ ys) within = (omega (arith, within.0.0, mul_up m b s.width above.0), raised ys within.1)

    later_rows : (b : ℕ) (bs : List ℕ) → AllByRecursion (λ z. b < z) bs → AllByRecursion (λ z. b + 1 ≤ z) bs
    later_rows b [] above = tt
    later_rows b (z ∷ bs) above = (omega (arith, above.0), later_rows b bs above.1)

    apart : (m : ℕ) (xs ys : List ℕ) → AllByRecursion (λ x. x < m) xs → AllByRecursion (λ y. m ≤ y) ys → AllByRecursion (λ x. AllByRecursion (λ y. x < y) ys) xs
    apart m [] ys low high = tt
    apart m (x ∷ xs) ys low high = (each ys high, apart m xs ys low.1 high) where
      each : (ys : List ℕ) → AllByRecursion (λ y. m ≤ y) ys → AllByRecursion (λ y. x < y) ys
      each [] h = tt
      each (y ∷ ys) h = (omega (arith, low.0, h.0), each ys h.1)

    upper : (a m : ℕ) (ys : List ℕ) → AllBetween a m ys → AllByRecursion (λ y. y < m) ys
    upper a m [] within = tt
    upper a m (y ∷ ys) within = (within.0.1, upper a m ys within.1)

    around_rises : (bs : List ℕ) → Rises cs → Rises bs → Rises (around s cs bs)
    around_rises [] up rows = tt
    around_rises (b ∷ bs) up rows =
        rises-append (in_row s cs b) (around s cs bs) (row_rises cs b up) (around_rises bs up rows.1)
        (apart ((b + 1) * s.width) (in_row s cs b) (around s cs bs) (upper (b * s.width) ((b + 1) * s.width) (in_row s cs b) (row_between cs b below)) (from_row (b + 1) bs (later_rows b bs rows.0)))

    around_below : (h : ℕ) (bs : List ℕ) → AllByRecursion (λ b. b < h) bs → AllBetween 0 (0 + s.width * h) (around s cs bs)
    around_below h [] low = tt
    around_below h (b ∷ bs) low =
        all-append (λ y. (0 ≤ y) × (y < 0 + s.width * h)) (in_row s cs b) (around s cs bs) (lowered (in_row s cs b) (row_between cs b below)) (around_below h bs low.1) where
          lowered : (ys : List ℕ) → AllBetween (b * s.width) ((b + 1) * s.width) ys → AllBetween 0 (0 + s.width * h) ys
          lowered [] within = tt
          lowered (y ∷ ys) within = ((omega arith, omega (arith, within.0.1, mul_up (b + 1) h s.width (omega (arith, low.0)))), lowered ys within.1)

-- places beside one another differ
beside_other : (axis : Axis) (i k : ℕ) → IsAxis axis → i < axis.places → k < axis.places → are_beside axis i k ≡ true → (k == i) ≡ false
beside_other axis i k is low below beside =
    elim (cases_Bool axis.closed) [
      | inl ring ↦ let three = is.ring ring in let b = rw ring at beside in grind (arith, nat_tests)
      | inr line ↦ let b = rw line at beside in grind (arith, nat_tests)
    ]

-- of what is near, the neighbours
sorted_out : (p q d r c : Bool) → (c ≡ true → p ≡ false)
    → (if q then c else (r && (p || (d && c)))) ≡ ((q || r) && ((p || c) && (if q then not p else (d || p))))
sorted_out p q d r c other =
    elim (cases_Bool c) [
      | inl beside ↦ rw (beside, other beside) (grind (arith, nat_tests))
      | inr far ↦ rw far (grind (arith, nat_tests))
    ]

module _ (f : Frame) (is : IsFrame f) (u : ℕ) (low : u < frame_nodes f) where
  abbrev spot : Spot
  spot = record { width = f.columns.places; column = column f.columns.places u; row = row f.columns.places u; slant = f.slant }

  -- the neighbours at the places near a node's own are those that the frame joins with it
  pub around_is : (cs bs : List ℕ) → AreNear f.columns (column f.columns.places u) cs → AreNear f.rows (row f.columns.places u) bs
      → around (record { width = f.columns.places; column = column f.columns.places u; row = row f.columns.places u; slant = f.slant }) cs bs ≡ joined_with (frame_joins f) (frame_nodes f) u
  around_is cs bs columns rows =
      let w = f.columns.places in
      let wide = is.columns.some in
      let below = recursion_from_All (λ c. c < w) cs columns.below in
      let under = recursion_from_All (λ b. b < f.rows.places) bs rows.below in
      rising-filter (frame_nodes f) 0 (around spot cs bs) (frame_joins f u) (around_rises spot cs wide below bs columns.rising rows.rising) (around_below spot cs wide below f.rows.places bs under)
      (λ q from high.
      let x_low = column_below w wide u in
      let y_low = row_below w wide f.rows.places u low in
      let a_low = column_below w wide q in
      let b_low = row_below w wide f.rows.places q (omega arith) in
      sorted_out (column w q == column w u) (row w q == row w u) (slants f.slant (row w u) (column w u) (column w q)) (are_beside f.rows (row w u) (row w q)) (are_beside f.columns (column w u) (column w q))
      (beside_other f.columns (column w u) (column w q) is.columns x_low a_low)
      ∙ rw (← columns.all (column w q) a_low, ← rows.all (row w q) b_low) (sym (around_has spot cs wide below bs q)))
