use Rattle.std.proofs.Common.{◌≡◌, ◌++◌, ◌<◌, ap, ◌∙◌, sym, subst, length, All, take}
use Rattle.std.proofs.lemmas.List.{take-append-drop}
use Rattle.std.proofs.lemmas.List.Elements.{All-push}
use Rattle.rounds_blocks.specs.Batches.{IsBatch, nodes_of}
use Rattle.rounds_blocks.proofs.Ranges.{nodes_more, all_back, falling_back}
use Rattle.rounds_blocks.proofs.layout.put_batches.Goals as goal

pub loop-rest-preserved : goal.loop-rest-preserved
loop-rest-preserved c =
    let l = c.loop-rest in
    let rest = l.rest.now in
    let front = c.split_at.result.0.now in
    let back = c.split_at.result.1.now in
    let n = c.next_batch.result in
    let parts : front ++ back ≡ rest = ap (λ xs. xs ++ back) c.split_at.ensures.front ∙ ap (λ ys. take n rest ++ ys) c.split_at.ensures.back ∙ take-append-drop n rest in
    record {
      all = ap (λ bs. nodes_of bs ++ back) c.in_ok-push.ensures.items ∙ nodes_more l.batches.items c.in_ok-batch_of.field-0 rest front back (nodes_of c.args.batches.now.items ++ c.args.nodes.now) l.invariant.all parts c.in_ok-batch_of.ensures.nodes;
      each = subst (All (IsBatch c.args.network.now)) (sym c.in_ok-push.ensures.items) (All-push (IsBatch c.args.network.now) l.batches.items c.in_ok-batch_of.field-0 l.invariant.each c.in_ok-batch_of.ensures.whole);
      within = all_back (λ u. u < length c.args.network.now) front back rest parts l.invariant.within;
      falling = falling_back c.args.network.now front back rest parts l.invariant.falling;
    }
