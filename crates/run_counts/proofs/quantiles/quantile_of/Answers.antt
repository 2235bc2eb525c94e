use Rattle.std.proofs.Common.{◌≡◌, ◌∙◌, ◌*◌, ◌+◌, ◌-◌, ◌/◌, ◌≤◌, ℕ, length, ap, sym, arith}
use Rattle.std.specs.Prelude.{max}
use Rattle.std.proofs.Math.Nat.{mul-le-mul_right}
use Rattle.run_counts.proofs.Ranks.{quantile_is, ranked}
use Rattle.run_counts.proofs.quantiles.quantile_of.Goals as goal

pub returns : goal.returns
returns c =
    let numbers = c.args.sorted.now in
    let wanted = c.args.percent * length numbers in
    let rank : c.max.result ≡ max ((wanted + 99) / 100) 1 = c.max.ensures ∙ ap (λ (p : ℕ). max ((p * length numbers + 99) / 100) 1) c.from.ensures in
    let most : wanted ≤ 100 * length numbers = mul-le-mul_right (length numbers) c.requires.percent in
    record {
      exact = sym (
          quantile_is c.args.percent numbers _
          (ranked c.args.percent c.max.result numbers (omega (arith, rank)) (omega (arith, rank, most, c.requires.some)) (omega (arith, rank)) (λ less. omega (arith, rank, less)) c.requires.sorted)
          );
    }
