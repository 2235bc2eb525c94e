use Rattle.std.proofs.Common.{◌<◌, ◌≤◌, ◌+◌, ◌-◌, ◌++◌, All, arith, length, subst, sym, ap, ◌∙◌}
use Rattle.std.specs.List.{range_with_len}
use Rattle.std.proofs.lemmas.List.Sorted.{All-permutation}
use Rattle.rounds_blocks.specs.Batches.{nodes_of}
use Rattle.rounds_blocks.proofs.Ranges.{range_within, window_more}
use Rattle.rounds_blocks.proofs.layout.all_batches.Goals as goal

pub put_batches-requires-clause-within : goal.put_batches-requires-clause-within
put_batches-requires-clause-within c =
    let n = length c.args.network.now in
    let first = c.loop-first.first in
    let end = c.window_end-end.result in
    let inside : first + (end - first) ≤ n = omega (arith, c.window_end-end.ensures.some, c.window_end-end.ensures.inside, c.nodes-nodes.ensures.count) in
    subst (All (λ u. u < n)) (sym c.deref.ensures.value)
    (All-permutation (λ u. u < n) (range_with_len first (end - first)) c.in_ok-window.window.items c.in_ok-window.ensures.once (range_within first (end - first) n inside))

pub loop-first-preserved : goal.loop-first-preserved
loop-first-preserved c =
    let l = c.loop-first in
    let end = c.window_end-end.result in
    let order : l.first ≤ end = omega (arith, c.window_end-end.ensures.some) in
    record {
      inside = c.window_end-end.ensures.inside;
      each = c.in_ok-put_batches.ensures.each;
      once =
          window_more l.first end (nodes_of l.batches.items) c.in_ok-window.window.items (nodes_of c.put_batches.new.batches.items) order l.invariant.once c.in_ok-window.ensures.once
          (c.in_ok-put_batches.ensures.nodes ∙ ap (λ ns. nodes_of l.batches.items ++ ns) c.deref.ensures.value);
    }
