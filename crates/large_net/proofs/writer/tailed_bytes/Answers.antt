use Rattle.std.proofs.Common.{◌≡◌, ◌∙◌, ◌-◌, ℕ, length, not, eqb, sym, ap}
use Rattle.std.specs.List.{list_any, sum_by}
use Rattle.large_net.specs.File.{is_weighted}
use Rattle.large_net.proofs.Parts.{rows_count, rows_sum}
use Rattle.large_net.proofs.Weighted.{weighted_rows}
use Rattle.large_net.proofs.writer.tailed_bytes.Goals as goal

pub returns-clause-short : goal.returns-clause-short
returns-clause-short c =
    let offsets = c.lists-lists.result.offsets.now in
    let ns = c.lists-lists.result.neighbours.now in
    let ws = c.lists-lists.result.weights.now in
    let held = c.lists-lists.ensures.laid_out.held in
    let rows = sym c.lists-lists.ensures.rows in
    let nodes : length c.args.network.now ≡ length offsets - 1 = ap length rows ∙ rows_count offsets ns ws in
    let ends : sum_by (length {A = ℕ × ℕ}) c.args.network.now ≡ length ns = ap (sum_by length) rows ∙ rows_sum offsets ns ws held.paired held.placed in
    let weighted : is_weighted c.args.network.now ≡ list_any (λ w. not (eqb w 1)) ws = ap is_weighted rows ∙ weighted_rows offsets ns ws held.placed held.paired in
    rw (nodes, ends, weighted) c.spell.ensures.short
