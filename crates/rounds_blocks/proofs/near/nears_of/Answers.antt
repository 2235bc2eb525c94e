use Rattle.std.proofs.Common.{◌≡◌, ◌∙◌, ◌≤◌, ◌+◌, ℕ, List, [], ◌∷◌, All, ap, sym, subst, arith, length, length-append, slice_index}
use Rattle.std.proofs.lemmas.List.Elements.{All-push}
use Rattle.rounds_code.proofs.Nodes.{refilled}
use Rattle.rounds_blocks.specs.Nears.{AreHomes, IsWithin}
use Rattle.rounds_blocks.proofs.Homes.{nears_more}
use Rattle.rounds_blocks.proofs.near.nears_of.Goals as goal

pub loop-i-preserved : goal.loop-i-preserved
loop-i-preserved c =
    let l = c.loop-i in
    let network = c.args.network.now in
    let batches = c.args.batches.now in
    let near = c.in_ok-near_of.field-0 in
    let items = c.in_ok-push.ensures.items in
    let stamps = c.near_of.new.stamps in
    let made = refilled l.stamps.len stamps l.stamps.items (c.near_of.auto.stamps ∙ c.deref_mut.ensures.len) in
    let many : length stamps ≡ length batches = c.near_of.auto.stamps ∙ ap length c.deref_mut.ensures.value ∙ l.invariant.many in
    let homes_are = subst (λ (hs : List ℕ). AreHomes batches (length network) hs) (sym c.deref.ensures.value)
    (subst (λ (n : ℕ). AreHomes batches n c.in_ok-homes.homes.items) c.nodes.ensures.count c.in_ok-homes.ensures.homes) in
    record {
      many = ap length made ∙ many;
      low = λ k. subst (λ (xs : List ℕ). slice_index xs k ≤ l.i + 1) (sym made) (c.in_ok-near_of.ensures.low k);
      count = omega (arith, ap length items, length-append l.nears.items (near ∷ []), l.invariant.count);
      within = subst (All (IsWithin (length batches))) (sym items) (All-push (IsWithin (length batches)) l.nears.items near l.invariant.within
          (subst (λ (n : ℕ). IsWithin n near) many c.in_ok-near_of.ensures.within));
      each = nears_more network batches l.nears.items c.push.new.self.items near c.index-batches-i.result l.i items l.invariant.count
          c.loop-i-test.true c.index-batches-i.is l.invariant.each (c.in_ok-near_of.ensures.near batches homes_are);
    }
