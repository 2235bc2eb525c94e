use Rattle.std.proofs.Common.{◌<◌, All, ℕ, length, slice_index_or}
use Rattle.rounds_blocks.specs.declared.batch.Batch.{Batch}
use Rattle.rounds_blocks.proofs.Copies.{columns_copied, columns_kept}
use Rattle.rounds_blocks.proofs.merge.copy_shares.Goals as goal

pub returns-clause-copied : goal.returns-clause-copied
returns-clause-copied g c = λ words all.
    let a = c.args in
    let task = a.task.now in
    let is = c.requires.computed in
    let within : (i : ℕ) (d : Batch) → i < length task.batches.now → All (λ u. u < length task.network.now) (slice_index_or task.batches.now i d).nodes = λ i d inside. (is.each i d inside).within in
    columns_copied task a.shares.now.all.items (length task.network.now) a.to.now c.copy_columns.new.to words c.copy_columns.auto.to c.requires.long c.copy_columns.ensures.copied within is.inside c.requires.wide all

pub returns-clause-kept : goal.returns-clause-kept
returns-clause-kept g c = λ words u all.
    let a = c.args in
    let task = a.task.now in
    let is = c.requires.computed in
    let within : (i : ℕ) (d : Batch) → i < length task.batches.now → All (λ u. u < length task.network.now) (slice_index_or task.batches.now i d).nodes = λ i d inside. (is.each i d inside).within in
    columns_kept task a.shares.now.all.items (length task.network.now) a.to.now c.copy_columns.new.to words c.copy_columns.auto.to c.requires.long c.copy_columns.ensures.copied within is.inside c.requires.wide all u
