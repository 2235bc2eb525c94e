use Rattle.std.proofs.Common.{◌≡◌, ◌∙◌, ◌≤◌, ◌*◌, ℕ, List, true, ◌&&◌, nat_le, None, length, replicate, arith}
use Rattle.std.proofs.lemmas.Bool.{and_parts}
use Rattle.std.proofs.lemmas.Bool.Decides.{nat_tests}
use Rattle.std.proofs.lemmas.Nat.{pow_pos}
use Rattle.link_net.specs.Layout.{rows_of}
use Rattle.large_net.specs.Large.{AreLaidOut}
use Rattle.net_shapes.specs.declared.shape.Shape.{Shape}
use Rattle.net_shapes.specs.LargeShapes.{shape_neighbours}
use Rattle.net_shapes.specs.LargeSizes.{has_enough, refusal_of}
use Rattle.net_shapes.specs.Rows.{joined_rows}
use Rattle.net_shapes.specs.Shapes.{node_count, shape_joins}
use Rattle.net_shapes.specs.Tables.{HoldBelow}
use Rattle.net_shapes.proofs.FitsLarge.{fits_large}
use Rattle.net_shapes.proofs.Tables.{laid_out, rows_are}
use Rattle.net_shapes.proofs.large.network.shaped.Goals as goal

one : (n : ℕ) → nat_le 1 n ≡ true → 1 ≤ n
one n h = grind (arith, nat_tests)

three : (n : ℕ) → nat_le 3 n ≡ true → 1 ≤ n
three n h = grind (arith, nat_tests)

product : (w h : ℕ) → 1 ≤ w → 1 ≤ h → 1 ≤ w * h
product w h a b = search arith

area : (low w h : ℕ) → 1 ≤ low → (nat_le low w && nat_le low h) ≡ true → 1 ≤ w * h
area low w h some both =
    let (a, b) = and_parts (nat_le low w) (nat_le low h) both in
    product w h (grind (arith, nat_tests)) (grind (arith, nat_tests))

-- a shape that is large enough has a node
some_nodes : (s : Shape) → has_enough s ≡ true → 1 ≤ node_count s
some_nodes (Shape.Path n) h = one n h
some_nodes (Shape.Ring n) h = three n h
some_nodes (Shape.Star n) h = one n h
some_nodes (Shape.Grid w k) h = area 1 w k (omega arith) h
some_nodes (Shape.DiagonalGrid w k x) h = area 1 w k (omega arith) h
some_nodes (Shape.Torus w k d) h = area 3 w k (omega arith) h
some_nodes (Shape.Complete n) h = one n h
some_nodes (Shape.Bipartite l r) h = let (a, b) = and_parts (nat_le 1 l) (nat_le 1 r) h in let some : 1 ≤ l = one l a in omega arith
some_nodes (Shape.Tree n k) h = let (a, b) = and_parts (nat_le 1 n) (nat_le 1 k) h in one n a
some_nodes (Shape.Hypercube d) h = pow_pos d

-- the three lists that are made
module _ (s : Shape) (fits : refusal_of s ≡ None) (offsets ends weights : List ℕ) (k : ℕ)
    (held : HoldBelow (shape_neighbours s) (node_count s) offsets ends) (ones : weights ≡ replicate k 1) (many : k ≡ length ends) where
  three_laid_out : AreLaidOut offsets ends weights
  three_laid_out =
      let is = fits_large s fits in
      rw (ones, many, held.placed, held.filled) (laid_out (shape_joins s) (node_count s) (some_nodes s is.enough) is.small)

  three_rows : rows_of offsets ends weights ≡ joined_rows (shape_joins s) (node_count s)
  three_rows = rw (ones, many, held.placed, held.filled) (rows_are (shape_joins s) (node_count s))

pub new-requires : goal.new-requires
new-requires c =
    let ones = c.in_ok-weights.ensures.items_if_clones_equal (λ y same. same) in
    record { laid_out = three_laid_out c.args.shape.now c.requires.fits _ _ _ c.len.result c.in_ok-table.ensures.all ones (omega arith) }

pub returns : goal.returns
returns c =
    let ones = c.in_ok-weights.ensures.items_if_clones_equal (λ y same. same) in
    record { rows = c.new.ensures.rows ∙ three_rows c.args.shape.now c.requires.fits _ _ _ c.len.result c.in_ok-table.ensures.all ones (omega arith) }
