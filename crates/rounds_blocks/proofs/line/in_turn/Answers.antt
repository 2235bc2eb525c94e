use borrow.Author.Count.{below_more}
use Rattle.std.proofs.Common.{◌<◌, ◌+◌, ◌∙◌, ℕ, arith, length, sym, subst, slice_index_or, slice_set}
use Rattle.std.proofs.lemmas.List.{get_or-set_same, get_or-set_other, get_or_default}
use Rattle.std.specs.Fork.{ChangesAt}
use Rattle.rounds_blocks.proofs.line.in_turn.Goals as goal

pub loop-k-preserved : goal.loop-k-preserved
loop-k-preserved g c =
    let l = c.loop-k in
    let k = l.k in
    let xs = c.args.s.now in
    let ys = l.s in
    let y = c.call.new.item in
    let R : ℕ → g.row.T.Denot → g.row.T.Denot → Type 0 = λ j. ChangesAt g.F.Fn c.args.f.now (c.args.from + j) in
    let inside : k < length ys = omega arith in
    record {
      others = λ j d h. get_or-set_other ys k j y d (λ e. omega arith) ∙ l.invariant.others j d (omega arith);
      changes = λ j d h. below_more (λ i. R i (slice_index_or xs i d) (slice_index_or (slice_set ys k y) i d)) k
          (λ i u. subst (R i (slice_index_or xs i d)) (sym (get_or-set_other ys k i y d (λ e. omega arith))) (l.invariant.changes i d u))
          (subst (R k (slice_index_or xs k d)) (sym (get_or-set_same ys k y d inside))
          (subst (λ x. R k x y) (get_or_default ys k _ d inside ∙ l.invariant.others k d (omega arith)) c.call.ensures))
          j h;
    }
