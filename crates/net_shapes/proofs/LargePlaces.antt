-- Nodes in rows: the row and the column of each.
use Rattle.std.proofs.Common.{◌≡◌, ℕ, ◌+◌, ◌*◌, ◌<◌, ◌≤◌, ◌==◌, false, ◌&&◌, refl, sym, ap, ◌∙◌, inl, inr, arith, mul_comm}
use Rattle.std.proofs.lemmas.Bool.{cases_Bool}
use Rattle.std.proofs.lemmas.Bool.Decides.{nat_tests}
use Rattle.std.proofs.lemmas.Nat.{div-mul-add, mod-mul-add, div-add-mod', div_below, mod_below}
use Rattle.net_shapes.specs.Shapes.{row, column}

module _ (w : ℕ) (wide : 1 ≤ w) where
  pub column_below : (u : ℕ) → column w u < w
  column_below u = mod_below u w (omega arith)

  pub row_below : (h u : ℕ) → u < w * h → row w u < h
  row_below h u low = div_below u w h (omega arith) (rw (mul_comm h w) low)

  same_place : (a b q : ℕ) → row w q ≡ b → column w q ≡ a → q ≡ b * w + a
  same_place a b q in_row in_column = sym (div-add-mod' q w) ∙ ap (λ k. k * w + column w q) in_row ∙ ap (λ k. b * w + k) in_column

  other_place : (a b x y q p : ℕ) → (q == p) ≡ false → (y ≡ b → x ≡ a → q ≡ p) → (q == p) ≡ (y == b && x == a)
  other_place a b x y q p other back =
      elim (cases_Bool (y == b && x == a)) [
        | inl both ↦
            let first : y ≡ b = grind (arith, nat_tests) in
            let second : x ≡ a = grind (arith, nat_tests) in
            let same = back first second in
            absurd (grind (arith, nat_tests))
        | inr none ↦ rw (other, none) refl
      ]

  -- a node is that at a column of a row where it has both
  pub place_test : (a b q : ℕ) → a < w → (q == b * w + a) ≡ (row w q == b && column w q == a)
  place_test a b q low =
      elim (cases_Bool (q == b * w + a)) [
        | inl same ↦
            let is : q ≡ b * w + a = grind (arith, nat_tests) in
            let in_row : row w q ≡ b = ap (λ k. row w k) is ∙ div-mul-add b w a low in
            let in_column : column w q ≡ a = ap (λ k. column w k) is ∙ mod-mul-add b w a low in
            grind (arith, nat_tests)
        | inr other ↦ other_place a b (column w q) (row w q) q (b * w + a) other (same_place a b q)
      ]
