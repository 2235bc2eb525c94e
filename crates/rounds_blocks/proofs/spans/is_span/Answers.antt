use Rattle.std.proofs.Common.{arith, length, refl}
use Rattle.rounds_blocks.proofs.Together.{span_made}
use Rattle.rounds_blocks.proofs.spans.is_span.Goals as goal

pub returns-then-batches_inside : goal.returns-then-batches_inside
returns-then-batches_inside c =
    let a = c.args in
    record {
      span = λ yes.
          span_made (length a.homes.now) a.batches.now a.first a.span.now a.homes.now c.requires.homes
          (omega (arith, c.if-span-batches.false)) (omega (arith, c.if-span.false)) (omega (arith, c.if-span-homes.false))
          (c.if-batches_inside.ensures.within refl) (c.homes_inside.ensures.within yes);
    }
