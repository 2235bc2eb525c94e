use Rattle.std.proofs.Common.{length, refl}
use Rattle.rounds_blocks.proofs.Together.{no_span}
use Rattle.rounds_blocks.proofs.spans.span_behind.Goals as goal

pub returns-else-at-last : goal.returns-else-at-last
returns-else-at-last c = record {
  exact = no_span (length c.args.homes.now) c.args.batches.now c.args.at (record { behind = 0; low = 0; high = 0 }) refl refl refl;
}
