use Rattle.std.proofs.Common.{◌≡◌, ℕ, List, ap, sym, subst, ◌∙◌, map, slice_index, All}
use Rattle.rule_check.specs.Value.{Rules}
use Rattle.rounds_code.specs.Block.{Lane, next_of, places_from, scattered}
use Rattle.rounds_blocks.specs.Rounds.{HasWordFrom, next_word}
use Rattle.rounds_blocks.proofs.Parts.{part_kept, part_written}
use Rattle.rounds_blocks.proofs.Sums.{next_words}
use Rattle.rounds_blocks.proofs.part.step_part.Goals as goal

made : (c : goal.After-slice_known-2-1) → c.finish_part.new.column
    ≡ scattered (places_from c.args.low c.args.batch.now.nodes) (map (next_word c.args.block.now.rules c.args.network.now c.args.round c.args.from.now) c.args.batch.now.nodes) c.args.part.now
made c =
    let a = c.args in
    let nodes = a.batch.now.nodes in
    let places = places_from a.low nodes in
    let lanes = c.gather.new.block.lanes in
    c.finish_part.ensures.words
    ∙ ap (λ (r : Rules). scattered places (map (λ (node : Lane). slice_index (next_of r node).words 0) lanes) a.part.now) c.gather.ensures.rules
    ∙ ap (λ (ws : List ℕ). scattered places ws a.part.now) (next_words a.block.now.rules a.network.now a.round a.from.now lanes nodes 0 c.gather.ensures.count c.gather.ensures.lanes)

pub returns-clause-done : goal.returns-clause-done
returns-clause-done c =
    let a = c.args in
    let next = next_word a.block.now.rules a.network.now a.round a.from.now in
    subst (λ (part : List ℕ). All (HasWordFrom a.low next part) a.batch.now.nodes) (sym (made c)) (part_written next a.low a.batch.now.nodes a.part.now c.requires.part)

pub returns-clause-kept : goal.returns-clause-kept
returns-clause-kept c = λ u here.
    let a = c.args in
    let next = next_word a.block.now.rules a.network.now a.round a.from.now in
    subst (λ (part : List ℕ). HasWordFrom a.low next part u) (sym (made c)) (part_kept next a.low a.batch.now.nodes a.part.now c.requires.part u here)
