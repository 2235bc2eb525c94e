use Rattle.std.proofs.Common.{◌<◌, ℕ, List, ◌∙◌, ap, refl, sym, arith, length, map, slice_index, slice_index_or}
use Rattle.rounds_code.specs.Block.{state_at, next_of}
use Rattle.rounds_plan.specs.Rounds.{round_from}
use Rattle.rounds_blocks.proofs.Steps.{batch_words}
use Rattle.rounds_blocks.proofs.Words.{length_scattered, scatter_kept, scatter_written, column_lane}
use Rattle.rounds_blocks.proofs.round.step.Goals as goal

pub returns-clause-nodes : goal.returns-clause-nodes
returns-clause-nodes c = λ k d inside.
    let low : k < length c.args.to.now = omega (arith, inside, c.finish.auto.columns) in
    ap length (c.finish.ensures.words k d low)
    ∙ length_scattered c.args.batch.now.nodes (map (λ node. slice_index (next_of c.gather.new.block.rules node).words k) c.gather.new.block.lanes) (slice_index_or c.args.to.now k d).items
    ∙ c.requires.next_nodes k d low

pub returns-clause-done : goal.returns-clause-done
returns-clause-done c = λ i d place k inside.
    let a = c.args in
    let nodes = a.batch.now.nodes in
    let none = a.batch.now.degrees in
    let u = slice_index_or nodes i d in
    let low : k < length a.to.now = omega (arith, inside, c.finish.auto.columns) in
    let g = λ (u : ℕ). slice_index (round_from a.block.now.rules a.network.now a.round (state_at a.from.now) u).words k in
    let column = (slice_index_or a.to.now k none).items in
    column_lane c.finish.new.columns u k none inside
    ∙ ap (λ (ws : List ℕ). slice_index ws u)
    (batch_words a.block.now.rules c.gather.new.block.rules a.network.now a.round a.from.now c.gather.ensures.rules
    a.to.now c.finish.new.columns c.gather.new.block.lanes nodes c.args.batch.now.nodes none k
    refl c.finish.ensures.words c.gather.ensures.count c.gather.ensures.lanes low)
    ∙ scatter_written g nodes column i d (λ n e h. omega (arith, c.requires.batch.within n e h, c.requires.next_nodes k none low)) place

pub returns-clause-kept : goal.returns-clause-kept
returns-clause-kept c = λ u here k inside.
    let a = c.args in
    let nodes = a.batch.now.nodes in
    let none = a.batch.now.degrees in
    let low : k < length a.to.now = omega (arith, inside, c.finish.auto.columns) in
    let g = λ (u : ℕ). slice_index (round_from a.block.now.rules a.network.now a.round (state_at a.from.now) u).words k in
    let column = (slice_index_or a.to.now k none).items in
    column_lane c.finish.new.columns u k none inside
    ∙ ap (λ (ws : List ℕ). slice_index ws u)
    (batch_words a.block.now.rules c.gather.new.block.rules a.network.now a.round a.from.now c.gather.ensures.rules
    a.to.now c.finish.new.columns c.gather.new.block.lanes nodes c.args.batch.now.nodes none k
    refl c.finish.ensures.words c.gather.ensures.count c.gather.ensures.lanes low)
    ∙ scatter_kept g nodes column u (λ n e h. omega (arith, c.requires.batch.within n e h, c.requires.next_nodes k none low)) (sym (column_lane a.to.now u k none low) ∙ here k low)
