use Rattle.std.proofs.Common.{◌≤◌, ℕ, arith}
use Rattle.rounds_blocks.specs.Rounds.{HasWordInside}
use Rattle.rounds_blocks.specs.Walks.{HoldsOfDue}
use Rattle.rounds_blocks.proofs.Due.{due_joined, due_fewer}
use Rattle.rounds_blocks.proofs.copying.copy_share.Goals as goal

pub loop-at-preserved : goal.loop-at-preserved
loop-at-preserved c =
    let a = c.args in
    let task = a.task.now in
    let share = a.share.now in
    let l = c.loop-at in
    let copy = c.copy_next-at in
    let from : share.first ≤ l.at = l.invariant.from in
    let left : (word : ℕ → ℕ) → HoldsOfDue (HasWordInside a.low word a.source.now) task share.first share.behind → HoldsOfDue (HasWordInside a.low word a.source.now) task l.at share.behind =
    λ word all i d low high is. all i d (omega (arith, from, low)) high is in
    record {
      from = omega (arith, from, copy.ensures.some);
      copied = λ word all.
          due_joined (HasWordInside a.low word l.part) (HasWordInside a.low word copy.new.part) task share.first l.at copy.result
          (λ u. copy.ensures.kept word u (left word all))
          (l.invariant.copied word all)
          (copy.ensures.copied word (left word all));
      kept = λ word u all here. copy.ensures.kept word u (left word all) (l.invariant.kept word u all here);
    }

pub returns-clause-copied : goal.returns-clause-copied
returns-clause-copied c = λ word all.
    due_fewer (HasWordInside c.args.low word c.loop-at.part) c.args.task.now c.args.share.now.first c.loop-at.at c.args.share.now.behind
    (omega (arith, c.loop-at-test.false)) (c.loop-at.invariant.copied word all)
