use Rattle.std.proofs.Common.{◌≡◌, ◌∙◌, ◌+◌, ◌*◌, ◌^◌, ℕ, ap, arith}
use Rattle.run_counts.proofs.Wides.{times_parts}
use Rattle.run_counts.proofs.wide.Wide.times.Goals as goal

pub overflow_mul-factor : goal.overflow_mul-factor
overflow_mul-factor c =
    let i = c.self.inside in
    let whole : c.args.factor * (i.high * 2 ^ 64 + i.low) ≡ c.args.factor * c.args.self.now = ap (λ (n : ℕ). c.args.factor * n) c.self.view_is in
    omega (arith, times_parts c.args.factor i.high i.low (2 ^ 64), whole, c.requires.fits)

pub from_parts-requires : goal.from_parts-requires
from_parts-requires c =
    let i = c.self.inside in
    let whole : c.args.factor * (i.high * 2 ^ 64 + i.low) ≡ c.args.factor * c.args.self.now = ap (λ (n : ℕ). c.args.factor * n) c.self.view_is in
    record { fits = omega (arith, times_parts c.args.factor i.high i.low (2 ^ 64), whole, c.requires.fits) }

pub returns : goal.returns
returns c =
    let i = c.self.inside in
    let whole : c.args.factor * (i.high * 2 ^ 64 + i.low) ≡ c.args.factor * c.args.self.now = ap (λ (n : ℕ). c.args.factor * n) c.self.view_is in
    record { product = c.from_parts.ensures.number ∙ times_parts c.args.factor i.high i.low (2 ^ 64) ∙ whole }
