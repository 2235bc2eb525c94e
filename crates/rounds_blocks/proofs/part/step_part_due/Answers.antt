use Rattle.std.proofs.Common.{◌∙◌, ℕ, List, All, subst, slice_index_or}
use Rattle.rule_check.specs.Value.{Rules}
use Rattle.rounds_blocks.specs.declared.batch.Batch.{Batch}
use Rattle.rounds_blocks.specs.Nears.{IsDue}
use Rattle.rounds_blocks.specs.Rounds.{HasWordFrom, next_word}
use Rattle.rounds_blocks.proofs.Due.{due_more}
use Rattle.rounds_blocks.proofs.part.step_part_due.Goals as goal

pub loop-at-preserved : goal.loop-at-preserved
loop-at-preserved c =
    let a = c.args in
    let l = c.loop-at in
    let task = a.task.now in
    let rules = a.block.now.rules in
    let new = c.step_part_where.new.part in
    let has = λ (r : Rules) (part : List ℕ). HasWordFrom a.low (next_word r task.network.now task.round task.from.now) part in
    let kept = subst (λ (r : Rules). (u : ℕ) → has r l.part u → has r new u) l.invariant.rules c.step_part_where.ensures.kept in
    let done = subst (λ (r : Rules). (d : Batch) → IsDue task.due.now l.at → All (has r new) (slice_index_or task.batches.now l.at d).nodes) l.invariant.rules c.step_part_where.ensures.done in
    record {
      rules = c.step_part_where.ensures.rules ∙ l.invariant.rules;
      done = due_more (has rules l.part) (has rules new) task a.first l.at kept l.invariant.done done;
      kept = λ u here. kept u (l.invariant.kept u here);
    }
