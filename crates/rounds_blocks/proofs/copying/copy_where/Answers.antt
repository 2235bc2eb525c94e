use Rattle.std.proofs.Common.{◌≡◌, All, sym, subst, slice_index_or}
use Rattle.std.proofs.lemmas.List.{get_or_default}
use Rattle.rounds_blocks.specs.declared.batch.Batch.{Batch}
use Rattle.rounds_blocks.specs.Rounds.{HasWordInside}
use Rattle.rounds_blocks.proofs.copying.copy_where.Goals as goal

pub returns-then-task-at-clause-copied : goal.returns-then-task-at-clause-copied
returns-then-task-at-clause-copied c = λ word d is there.
    let a = c.args in
    let batches = a.task.now.batches.now in
    let home = c.index-task-at.result in
    let same : slice_index_or batches a.at d ≡ slice_index_or batches a.at home = get_or_default batches a.at d home c.requires.there in
    subst (λ (b : Batch). All (HasWordInside a.low word c.copy_batch.new.part) b.nodes) (sym same)
    (c.copy_batch.ensures.copied word (subst (λ (b : Batch). All (HasWordInside a.low word a.source.now) b.nodes) same there))

pub returns-then-task-at-clause-kept : goal.returns-then-task-at-clause-kept
returns-then-task-at-clause-kept c = λ word u there here. c.copy_batch.ensures.kept word u (there c.if-task-at.true c.index-task-at.result) here
