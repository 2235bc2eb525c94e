use Rattle.std.proofs.Common.{◌≡◌, ◌∙◌, ◌<◌, ◌≤◌, ◌^◌, ℕ, None, sym, ap, subst, arith}
use Rattle.std.proofs.Math.Nat.{pow-le-pow_right}
use Rattle.net_shapes.specs.declared.shape.Shape.{Shape}
use Rattle.net_shapes.specs.LargeSizes.{refusal_of}
use Rattle.net_shapes.specs.Shapes.{node_count}
use Rattle.net_shapes.proofs.CubeSizes.{cube_small}
use Rattle.net_shapes.proofs.FitsLarge.{fits_large}
use Rattle.net_shapes.proofs.large.listed.put_listed.Goals as goal

-- a hypercube that fits has 31 dimensions at most, and so its nodes have so many digits
few_digits : (s : Shape) (d : ℕ) → s ≡ Shape.Hypercube d → refusal_of s ≡ None → d ≤ 31
few_digits s d is fits = cube_small d (fits_large (Shape.Hypercube d) (sym (ap refusal_of is) ∙ fits)).within

low_digits : (s : Shape) (d u : ℕ) → s ≡ Shape.Hypercube d → refusal_of s ≡ None → u < node_count s → u < 2 ^ 31
low_digits s d u is fits low =
    let inside : u < 2 ^ d = subst (λ (n : ℕ). u < n) (ap node_count is) low in
    let most : 2 ^ d ≤ 2 ^ 31 = pow-le-pow_right (omega arith) (few_digits s d is fits) in
    omega (arith, inside, most)

pub put_hypercube-requires-clause-few : goal.put_hypercube-requires-clause-few
put_hypercube-requires-clause-few c = few_digits c.args.shape.now c.in-Hypercube.dimension c.in-Hypercube.is c.requires.fits

pub put_hypercube-requires-clause-low : goal.put_hypercube-requires-clause-low
put_hypercube-requires-clause-low c = low_digits c.args.shape.now c.in-Hypercube.dimension c.args.node c.in-Hypercube.is c.requires.fits c.requires.low
