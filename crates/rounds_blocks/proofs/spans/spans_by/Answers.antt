use Rattle.std.proofs.Common.{[], ◌∷◌, ap, arith, length, length-append}
use Rattle.rounds_blocks.proofs.Together.{spans_more}
use Rattle.rounds_blocks.proofs.spans.spans_by.Goals as goal

pub loop-at-preserved : goal.loop-at-preserved
loop-at-preserved c =
    let l = c.loop-at in
    let span = c.span_behind-span.result in
    let items = c.in_ok-push.ensures.items in
    record {
      count = omega (arith, ap length items, length-append l.spans.items (span ∷ []), l.invariant.count);
      each =
          spans_more (length c.args.homes.now) c.args.batches.now l.spans.items c.push.new.self.items span l.at items l.invariant.count
          l.invariant.each c.span_behind-span.ensures.exact;
    }
