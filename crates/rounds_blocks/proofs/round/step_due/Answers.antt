use Rattle.std.proofs.Common.{◌∙◌, ℕ, All, subst, slice_index_or}
use Rattle.rule_check.specs.Value.{Rules}
use Rattle.rounds_blocks.specs.declared.batch.Batch.{Batch}
use Rattle.rounds_blocks.specs.Nears.{IsDue}
use Rattle.rounds_blocks.specs.Walks.{HasNext}
use Rattle.rounds_blocks.proofs.Due.{due_more}
use Rattle.rounds_blocks.proofs.round.step_due.Goals as goal

pub loop-at-preserved : goal.loop-at-preserved
loop-at-preserved c =
    let a = c.args in
    let l = c.loop-at in
    let task = a.task.now in
    let rules = a.block.now.rules in
    let new = c.step_where.new.to in
    let kept = subst (λ (r : Rules). (u : ℕ) → HasNext r task l.to u → HasNext r task new u) l.invariant.rules c.step_where.ensures.kept in
    let done = subst (λ (r : Rules). (d : Batch) → IsDue task.due.now l.at → All (HasNext r task new) (slice_index_or task.batches.now l.at d).nodes) l.invariant.rules c.step_where.ensures.done in
    record {
      rules = c.step_where.ensures.rules ∙ l.invariant.rules;
      nodes = c.step_where.ensures.nodes;
      done = due_more (HasNext rules task l.to) (HasNext rules task new) task a.first l.at kept l.invariant.done done;
      kept = λ u here. kept u (l.invariant.kept u here);
    }
