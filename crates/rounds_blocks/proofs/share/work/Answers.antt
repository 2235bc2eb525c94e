use Rattle.std.proofs.Common.{◌∙◌, ℕ, List, sym, subst}
use Rattle.std.specs.Global.{Vec}
use Rattle.rounds_code.proofs.Nodes.{refilled}
use Rattle.rounds_blocks.specs.Walks.{HasNext, HoldsOfDue}
use Rattle.rounds_blocks.proofs.share.work.Goals as goal

pub returns-clause-done : goal.returns-clause-done
returns-clause-done c =
    let a = c.args in
    let share = a.share.now in
    subst (λ (columns : List (Vec ℕ)). HoldsOfDue (HasNext share.block.rules a.task.now columns) a.task.now share.first share.behind)
    (sym (refilled share.columns.len c.step_due.new.to share.columns.items (c.step_due.auto.to ∙ c.deref_mut.ensures.len)))
    c.step_due.ensures.done
