use Rattle.std.proofs.Common.{◌++◌, ℕ, List, sym, subst}
use Rattle.rounds_blocks.specs.Walks.{IsCopied}
use Rattle.rounds_blocks.proofs.Pieces.{copied_both}
use Rattle.rounds_blocks.proofs.merge.+copies.Goals as goal

pub copy_from-returns : goal.copy_from-returns
copy_from-returns g t c =
    let a = c.args in
    let task = a.computed.now.task.now in
    let shares = a.computed.now.shares.now.all.items in
    let parts = c.split_at_mut-front in
    let beside = c.beside in
    record {
      copied = subst (λ (ws : List ℕ). IsCopied task shares a.field a.low ws (beside.new.front ++ beside.new.others)) (sym parts.ensures.value)
          (copied_both task shares a.field a.low parts.result.0.now parts.result.1.now beside.new.front beside.new.others beside.ensures.front beside.ensures.others);
    }
