use Rattle.std.proofs.Common.{length, refl}
use Rattle.rounds_blocks.proofs.Together.{no_span}
use Rattle.rounds_blocks.proofs.spans.span_at.Goals as goal

pub returns-else-is_span : goal.returns-else-is_span
returns-else-is_span c = record {
  exact = no_span (length c.args.homes.now) c.args.batches.now c.args.first (record { behind = 0; low = 0; high = 0 }) refl refl refl;
}
