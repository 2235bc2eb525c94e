use Rattle.std.proofs.Common.{◌≡◌, ◌∙◌, ◌+◌, ◌-◌, ◌*◌, ◌^◌, ◌/◌, ℕ, ap, arith, length, subst, sym}
use Rattle.run_counts.specs.Spread.{divisor_of, root, squares_off}
use Rattle.run_counts.proofs.Deviations.{divisor_small, several_some, squares_below, squares_fit, squares_small}
use Rattle.run_counts.proofs.spread.deviation_of.Goals as goal

pub times-squares-requires : goal.times-squares-requires
times-squares-requires c = omega (arith, squares_small (length c.args.numbers.now) c.squares_off.result c.requires.few c.squares_off.ensures.small)

pub root_of-requires : goal.root_of-requires
root_of-requires c =
    let n = length c.args.numbers.now in
    let some = several_some n c.requires.several in
    record {
      divisor = some;
      few = divisor_small n c.requires.few;
      small =
          omega (
            arith,
            squares_below c.squares_off.result (n * n * (n - 1)) some (squares_fit n (2 ^ 64) c.squares_off.result c.requires.several c.squares_off.ensures.small),
            c.times-squares.ensures.product,
          );
    }

pub returns : goal.returns
returns c =
    let numbers = c.args.numbers.now in
    let squares : c.times-squares.result ≡ 400000000 * squares_off numbers = c.times-squares.ensures.product ∙ ap (λ (s : ℕ). 400000000 * s) c.squares_off.ensures.squares in
    let is : c.root_of.result ≡ root (400000000 * squares_off numbers / divisor_of numbers) = c.root_of.ensures.root ∙ ap (λ (s : ℕ). root (s / divisor_of numbers)) squares in
    record { deviation = ap (λ (r : ℕ). (r + 1) / 2) is }
