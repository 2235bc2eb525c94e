use Rattle.std.proofs.Common.{◌≡◌, ◌+◌, ◌-◌, ◌≤◌, ◌∙◌, ℕ, false, length, nat_lt, slice_index, arith}
use Rattle.std.proofs.lemmas.Bool.Decides.{nat_tests}
use Rattle.link_net.specs.Limits.{most_neighbours}
use Rattle.link_net.proofs.Places.{find_further}
use Rattle.link_net.proofs.link_causes.longest_part.Goals as goal

not_more : (x : ℕ) → x ≤ 4096 → nat_lt most_neighbours x ≡ false
not_more x few = grind (arith, nat_tests)

pub loop-node-preserved : goal.loop-node-preserved
loop-node-preserved c =
    let node = c.loop-node.node in
    let offsets = c.args.offsets.now in
    c.loop-node.invariant ∙ find_further (λ u. nat_lt most_neighbours (slice_index offsets (u + 1) - slice_index offsets u)) node (length offsets - 1 - node) (length offsets - 1 - (node + 1)) (omega arith)
    (not_more (slice_index offsets (node + 1) - slice_index offsets node) c.if-neighbours-gt-MOST_NEIGHBOURS.false)
