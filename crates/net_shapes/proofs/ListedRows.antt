-- The neighbours that are listed are those that the shape joins.
use Rattle.std.proofs.Common.{◌≡◌, ◌∙◌, ℕ, ◌+◌, ◌-◌, ◌*◌, ◌/◌, ◌<◌, ◌≤◌, ◌==◌, Bool, true, false, ◌&&◌, ◌||◌, nat_le, nat_lt, min, ◌++◌, None, zero, suc, ap, arith, inl, inr, mul_comm}
use Rattle.std.specs.List.{range_with_len}
use Rattle.std.proofs.Math.Nat.{div-le_self, mul-le-mul_right}
use Rattle.std.proofs.lemmas.Bool.{and_parts, cases_Bool}
use Rattle.std.proofs.lemmas.Bool.Decides.{nat_tests}
use Rattle.std.proofs.lemmas.Nat.{div-mul-add}
use Rattle.net_shapes.specs.declared.shape.Shape.{Shape}
use Rattle.net_shapes.specs.Ahead.{when}
use Rattle.net_shapes.specs.Frames.{Rises, frame_of}
use Rattle.net_shapes.specs.LargeShapes.{shape_neighbours}
use Rattle.net_shapes.specs.LargeSizes.{refusal_of}
use Rattle.net_shapes.specs.Listed.{listed}
use Rattle.net_shapes.specs.Shapes.{node_count, shape_joins}
use Rattle.net_shapes.proofs.Ahead.{between}
use Rattle.net_shapes.proofs.CubeRows.{cube_row}
use Rattle.net_shapes.proofs.FitsLarge.{fits_large}
use Rattle.net_shapes.proofs.Listing.{behind_between, behind_rises, first_of, range_between, range_rises, row_is, second_of}
use Rattle.net_shapes.proofs.Lists.{has-append, has_when}
use Rattle.net_shapes.proofs.Rising.{AllBetween}
use Rattle.net_shapes.proofs.Rows.{has_row}
use Rattle.net_shapes.proofs.Trees.{is_child}

star_row : (n u : ℕ) → u < n → listed (Shape.Star n) u ≡ shape_neighbours (Shape.Star n) u
star_row n zero low =
    row_is n (range_with_len 1 (n - 1)) (shape_joins (Shape.Star n) 0) (range_rises 1 (n - 1)) (range_between 0 (0 + n) 1 (n - 1) (omega arith) (omega arith))
    (λ q high. rw (has_row q 1 (n - 1)) (grind (arith, nat_tests)))
star_row n (suc u) low =
    let other : (suc u == 0) ≡ false = grind (arith, nat_tests) in
    rw other (row_is n (range_with_len 0 1) (shape_joins (Shape.Star n) (suc u)) (range_rises 0 1) (range_between 0 (0 + n) 0 1 (omega arith) (omega arith))
    (λ q high. rw (has_row q 0 1) (grind (arith, nat_tests))))

complete_row : (n u : ℕ) → u < n → listed (Shape.Complete n) u ≡ shape_neighbours (Shape.Complete n) u
complete_row n u low =
    let first = range_with_len 0 u in
    let second = range_with_len (u + 1) (n - (u + 1)) in
    let below = range_between 0 u 0 u (omega arith) (omega arith) in
    let above = range_between u (0 + n) (u + 1) (n - (u + 1)) (omega arith) (omega arith) in
    row_is n (first ++ second) (shape_joins (Shape.Complete n) u)
    (behind_rises u (0 + n) first second (range_rises 0 u) below (range_rises (u + 1) (n - (u + 1))) above)
    (behind_between u (0 + n) first second (omega arith) below above)
    (λ q high. rw (has-append q first second, has_row q 0 u, has_row q (u + 1) (n - (u + 1))) (grind (arith, nat_tests)))

bipartite_row : (l r u : ℕ) → u < l + r → listed (Shape.Bipartite l r) u ≡ shape_neighbours (Shape.Bipartite l r) u
bipartite_row l r u low =
    elim (cases_Bool (nat_lt u l)) [
      | inl left ↦
          first_of (nat_lt u l) (range_with_len l r) (range_with_len 0 l) left
          ∙ row_is (l + r) (range_with_len l r) (shape_joins (Shape.Bipartite l r) u) (range_rises l r) (range_between 0 (0 + (l + r)) l r (omega arith) (omega arith))
          (λ q high. rw (has_row q l r) (grind (arith, nat_tests)))
      | inr right ↦
          second_of (nat_lt u l) (range_with_len l r) (range_with_len 0 l) right
          ∙ row_is (l + r) (range_with_len 0 l) (shape_joins (Shape.Bipartite l r) u) (range_rises 0 l) (range_between 0 (0 + (l + r)) 0 l (omega arith) (omega arith))
          (λ q high. rw (has_row q 0 l) (grind (arith, nat_tests)))
    ]

module _ (n k : ℕ) (some : 1 ≤ k) (u : ℕ) (low : u < n) where
  later : u ≤ u * k
  later =
      let times : 1 * u ≤ k * u = mul-le-mul_right u some in
      let turned : k * u ≡ u * k = mul_comm k u in
      omega (arith, times, turned)

  children_between : AllBetween u (0 + n) (range_with_len (u * k + 1) (min k (n - (u * k + 1))))
  children_between =
      elim (cases_Bool (nat_le (u * k + 1) n)) [
        | inl within ↦
            let fits : u * k + 1 ≤ n = grind (arith, nat_tests) in
            range_between u (0 + n) (u * k + 1) (min k (n - (u * k + 1))) (omega (arith, later)) (omega arith)
        | inr past ↦
            let over : n < u * k + 1 = grind (arith, nat_tests) in
            let none : min k (n - (u * k + 1)) ≡ 0 = omega arith in
            rw none tt
      ]

  parent_between : AllBetween 0 u (when (nat_lt 0 u) ((u - 1) / k))
  parent_between =
      elim (cases_Bool (nat_lt 0 u)) [
        | inl above ↦
            let positive : 0 < u = grind (arith, nat_tests) in
            rw above ((omega arith, omega (arith, div-le_self (u - 1) k)), tt)
        | inr root ↦ rw root tt
      ]

  parent_rises : Rises (when (nat_lt 0 u) ((u - 1) / k))
  parent_rises =
      elim (cases_Bool (nat_lt 0 u)) [
        | inl above ↦ rw above (tt, tt)
        | inr root ↦ rw root tt
      ]

  -- which nodes are children
  child_test : (q : ℕ) → q < n → between (u * k + 1) (min k (n - (u * k + 1))) q ≡ (nat_lt 0 q && (q - 1) / k == u)
  child_test q high =
      elim (cases_Bool (nat_lt 0 q && (q - 1) / k == u)) [
        | inl child ↦
            let (positive, of) = and_parts (nat_lt 0 q) ((q - 1) / k == u) child in
            let placed = is_child n k some u q (above q positive) high (named ((q - 1) / k) of) in
            let from = placed.0 in
            let to = placed.1 in
            rw child (grind (arith, nat_tests))
        | inr other ↦
            rw other (elim (cases_Bool (between (u * k + 1) (min k (n - (u * k + 1))) q)) [
              | inl there ↦
                  let from : u * k + 1 ≤ q = grind (arith, nat_tests) in
                  let to : q < u * k + 1 + min k (n - (u * k + 1)) = grind (arith, nat_tests) in
                  let split : q - 1 ≡ u * k + (q - 1 - u * k) = omega arith in
                  let is : (q - 1) / k ≡ u = ap (λ (m : ℕ). m / k) split ∙ div-mul-add u k (q - 1 - u * k) (omega arith) in
                  absurd (clash ((q - 1) / k) is (omega arith) other)
              | inr none ↦ none
            ])
      ] where
        above : (q : ℕ) → nat_lt 0 q ≡ true → 0 < q
        above q h = grind (arith, nat_tests)

        named : (m : ℕ) → (m == u) ≡ true → m ≡ u
        named m h = grind (arith, nat_tests)

        clash : (m : ℕ) → m ≡ u → 0 < q → (nat_lt 0 q && m == u) ≡ false → ⊥
        clash m is positive none = grind (arith, nat_tests)

  tree_row : listed (Shape.Tree n k) u ≡ shape_neighbours (Shape.Tree n k) u
  tree_row =
      let up = when (nat_lt 0 u) ((u - 1) / k) in
      let down = range_with_len (u * k + 1) (min k (n - (u * k + 1))) in
      row_is n (up ++ down) (shape_joins (Shape.Tree n k) u)
      (behind_rises u (0 + n) up down parent_rises parent_between (range_rises (u * k + 1) (min k (n - (u * k + 1)))) children_between)
      (behind_between u (0 + n) up down (omega arith) parent_between children_between)
      (λ q high. rw (has-append q up down, has_when (nat_lt 0 u) ((u - 1) / k) q, has_row q (u * k + 1) (min k (n - (u * k + 1))), child_test q high)
      (turned (nat_lt 0 u) q ((u - 1) / k) (nat_lt 0 q && (q - 1) / k == u))) where
        turned : (c : Bool) (q p : ℕ) (s : Bool) → ((c && q == p) || s) ≡ ((c && p == q) || s)
        turned c q p s = grind (arith, nat_tests)

-- the neighbours that are listed are those that the shape joins
pub listed_row : (s : Shape) → frame_of s ≡ None → refusal_of s ≡ None → (u : ℕ) → u < node_count s → listed s u ≡ shape_neighbours s u
listed_row (Shape.Path n) other fits u low = absurd cc
listed_row (Shape.Ring n) other fits u low = absurd cc
listed_row (Shape.Star n) other fits u low = star_row n u low
listed_row (Shape.Grid w h) other fits u low = absurd cc
listed_row (Shape.DiagonalGrid w h x) other fits u low = absurd cc
listed_row (Shape.Torus w h d) other fits u low = absurd cc
listed_row (Shape.Complete n) other fits u low = complete_row n u low
listed_row (Shape.Bipartite l r) other fits u low = bipartite_row l r u low
listed_row (Shape.Tree n k) other fits u low =
    let is = fits_large (Shape.Tree n k) fits in
    let (some, wide) = and_parts (nat_le 1 n) (nat_le 1 k) is.enough in
    tree_row n k (one k wide) u low where
      one : (k : ℕ) → nat_le 1 k ≡ true → 1 ≤ k
      one k h = grind (arith, nat_tests)
listed_row (Shape.Hypercube d) other fits u low = cube_row d u low
