-- Nodes in rows: the row and the column of each.
use Rattle.std.proofs.Common.{◌≡◌, ℕ, ◌*◌, ◌<◌, ◌≤◌, ◌==◌, false, ◌&&◌, nat_lt, refl, sym, ap, ◌∙◌, inl, inr, arith, mul_comm}
use Rattle.std.proofs.lemmas.Bool.{cases_Bool}
use Rattle.std.proofs.lemmas.Bool.Decides.{nat_tests}
use Rattle.std.proofs.lemmas.Nat.{div-mul-add, mod-mul-add, div-add-mod', div_below, mod_below, mul-add-lt}
use Rattle.net_shapes.specs.Shapes.{row, column}
use Rattle.net_shapes.specs.Ahead.{place}

module _ (w : ℕ) (wide : 1 ≤ w) where
  pub at_place : (u : ℕ) → u ≡ place w (column w u) (row w u)
  at_place u = sym (div-add-mod' u w)

  pub column_below : (u : ℕ) → column w u < w
  column_below u = mod_below u w (omega arith)

  same_place : (x y v : ℕ) → row w v ≡ y → column w v ≡ x → v ≡ place w x y
  same_place x y v in_row in_column = at_place v ∙ ap (λ k. place w (column w v) k) in_row ∙ ap (λ k. place w k y) in_column

  -- a node is that at a column and a row where it has both
  pub place_test : (x y v : ℕ) → x < w → (v == place w x y) ≡ (y == row w v && x == column w v)
  place_test x y v low =
      elim (cases_Bool (v == place w x y)) [
        | inl same ↦
            let is : v ≡ place w x y = grind (arith, nat_tests) in
            let in_row : row w v ≡ y = ap (λ k. row w k) is ∙ div-mul-add y w x low in
            let in_column : column w v ≡ x = ap (λ k. column w k) is ∙ mod-mul-add y w x low in
            grind (arith, nat_tests)
        | inr other ↦
            let back : row w v ≡ y → column w v ≡ x → v ≡ place w x y = same_place x y v in
            other_place x y (row w v) (column w v) v other back
      ] where
        other_place : (x y b a v : ℕ) → (v == place w x y) ≡ false → (b ≡ y → a ≡ x → v ≡ place w x y) → (v == place w x y) ≡ (y == b && x == a)
        other_place x y b a v other back =
            elim (cases_Bool (y == b && x == a)) [
              | inl both ↦
                  let first : b ≡ y = grind (arith, nat_tests) in
                  let second : a ≡ x = grind (arith, nat_tests) in
                  let same = back first second in
                  absurd (grind (arith, nat_tests))
              | inr none ↦ rw (other, none) refl
            ]

  -- nodes at different columns or rows differ
  pub place_other : (x y a b : ℕ) → x < w → a < w → (y == b && x == a) ≡ false → (place w x y == place w a b) ≡ false
  place_other x y a b low below other =
      elim (cases_Bool (place w x y == place w a b)) [
        | inl same ↦
            let is : place w x y ≡ place w a b = grind (arith, nat_tests) in
            let rows : y ≡ b = sym (div-mul-add y w x low) ∙ ap (λ k. row w k) is ∙ div-mul-add b w a below in
            let columns : x ≡ a = sym (mod-mul-add y w x low) ∙ ap (λ k. column w k) is ∙ mod-mul-add b w a below in
            absurd (differ x y a b rows columns other)
        | inr different ↦ different
      ] where
        differ : (x y a b : ℕ) → y ≡ b → x ≡ a → (y == b && x == a) ≡ false → ⊥
        differ x y a b rows columns other = grind (arith, nat_tests)

  module _ (h : ℕ) where
    pub row_below : (u : ℕ) → u < w * h → row w u < h
    row_below u low = div_below u w h (omega arith) (rw (mul_comm h w) low)

    -- a node is one of the rows where its row is
    pub low_test : (v : ℕ) → nat_lt v (w * h) ≡ nat_lt (row w v) h
    low_test v =
        elim (cases_Bool (nat_lt (row w v) h)) [
          | inl below ↦
              let in_row : row w v < h = grind (arith, nat_tests) in
              let in_all : v < w * h = rw (← at_place v) at (mul-add-lt (row w v) w (column w v) h in_row (column_below v)) in
              grind (arith, nat_tests)
          | inr above ↦
              elim (cases_Bool (nat_lt v (w * h))) [
                | inl in_all ↦
                    let low : v < w * h = grind (arith, nat_tests) in
                    let in_row = row_below v low in
                    absurd (grind (arith, nat_tests))
                | inr out ↦ rw (above, out) refl
              ]
        ]
