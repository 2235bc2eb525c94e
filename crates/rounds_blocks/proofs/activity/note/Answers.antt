use Rattle.std.proofs.Common.{◌≡◌, ◌<◌, ◌+◌, ◌∙◌, ℕ, All, sym, length, arith, slice_index_or, true, false}
use Rattle.std.specs.Prelude.{slice_set}
use Rattle.rounds_blocks.specs.Nears.{IsDue, Sleeps}
use Rattle.rounds_blocks.specs.Walks.{HasMoved, IsAsBefore}
use Rattle.rounds_blocks.proofs.Sets.{holds_more, sleeps_more}
use Rattle.rounds_blocks.proofs.Walks.{moved_here, same_here}
use Rattle.rounds_blocks.proofs.activity.note.Goals.{then-moved, else-moved}
use Rattle.rounds_blocks.proofs.activity.note.Goals as goal

pub loop-i-preserved : goal.loop-i-preserved
loop-i-preserved c =
    let l = c.loop-i in
    let batches = c.args.batches.now in
    let from = c.args.from.now in
    let to = c.args.to.now in
    let has = c.has_changed-has_moved.result in
    let room : l.i < length l.changed = omega (arith, c.loop-i-test.true, l.auto.changed, c.requires.changes) in
    record {
      noted = λ j d high is due.
          holds_more l.changed l.i has room (λ (k : ℕ). IsDue c.args.due.now k → All (IsAsBefore from to) (slice_index_or batches k d).nodes)
          (λ k h sleeps marked. l.invariant.noted k d h sleeps marked)
          (λ not marked. same_here batches from to l.i d c.index-batches-i.result c.loop-i-test.true c.index-batches-i.is (c.has_changed-has_moved.ensures.same not marked))
          j high is due;
      some = elim c.if-moved.branch as (λ _. c.if-moved.moved ≡ true → HasMoved batches from to) [
        | then-moved w ↦ λ _. l.invariant.some w.if-moved.true
        | else-moved w ↦ λ is. moved_here batches from to l.i c.index-batches-i.result c.loop-i-test.true c.index-batches-i.is (c.has_changed-has_moved.ensures.moved (sym w.moved-is ∙ is))
      ];
      none = elim c.if-moved.branch as (λ _. c.if-moved.moved ≡ false → (j : ℕ) → j < l.i + 1 → Sleeps (slice_set l.changed l.i has) j) [
        | then-moved w ↦ λ not. absurd (let never : true ≡ false = sym w.if-moved.true ∙ sym w.moved-is ∙ not in cc)
        | else-moved w ↦ λ not. sleeps_more l.changed l.i has room (sym w.moved-is ∙ not) (l.invariant.none w.if-moved.false)
      ];
    }
