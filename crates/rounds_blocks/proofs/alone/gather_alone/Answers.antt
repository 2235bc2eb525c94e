use Rattle.std.proofs.Common.{◌<◌, ◌≤◌, ◌+◌, ◌-◌, ◌⊎◌, inl, inr, ℕ, ◌++◌, ◌∙◌, ap, arith, take, drop, map, length, slice_index, slice_index_or}
use Rattle.std.proofs.lemmas.Bool.{cases_lt}
use Rattle.std.proofs.lemmas.List.{length-map}
use Rattle.link_net.specs.Neighbours.{row, degree}
use Rattle.rounds_code.specs.Block.{HasGathered, near_in}
use Rattle.rounds_blocks.proofs.Hubs.{slot_in, for_first, in_slots, alone_group, alone_row, alone_within}
use Rattle.rounds_blocks.proofs.Sums.{gathered_whole}
use Rattle.rounds_blocks.proofs.Steps.{lane_step}
use Rattle.rounds_blocks.proofs.alone.gather_alone.Goals as goal

pub take_row-requires-clause-within : goal.take_row-requires-clause-within
take_row-requires-clause-within c =
    let a = c.args in
    let l = c.loop-at in
    let behind = c.part_end-behind in
    let near_are = c.neighbours_of-neighbours.ensures.exact ∙ ap (λ u. map (λ a. a.0) (row a.network.now u)) c.first_node-node.ensures.exact in
    let long = ap length near_are ∙ length-map (row a.network.now (slice_index a.batch.now.nodes 0)) (λ a. a.0) in
    alone_within a.network.now a.batch.now c.requires.batch l.at behind.result (omega arith)
    (λ i late inside. omega (arith, c.requires.alone i late inside, l.invariant.late)) behind.ensures.some (omega (arith, behind.ensures.inside, long))
    c.neighbours_of-neighbours.result.now a.from.now near_are c.requires.network c.requires.nodes

pub loop-at-preserved : goal.loop-at-preserved
loop-at-preserved c =
    let a = c.args in
    let l = c.loop-at in
    let network = a.network.now in
    let batch = a.batch.now in
    let behind = c.part_end-behind in
    let u = slice_index batch.nodes 0 in
    let some : 0 < length batch.nodes = omega arith in
    let others : (i : ℕ) → 1 ≤ i → i < length batch.nodes → degree network (slice_index batch.nodes i) ≤ l.at = λ i late inside. omega (arith, c.requires.alone i late inside, l.invariant.late) in
    let near_are = c.neighbours_of-neighbours.ensures.exact ∙ ap (λ u. map (λ a. a.0) (row network u)) c.first_node-node.ensures.exact in
    let weights_are = c.weights_of-weights.ensures.exact ∙ ap (λ u. map (λ a. a.1) (row network u)) c.first_node-node.ensures.exact in
    let far : behind.result ≤ degree network u = omega (arith, behind.ensures.inside, ap length near_are, length-map (row network u) (λ a. a.0)) in
    let group = take (behind.result - l.at) (drop l.at batch.slots.items) in
    let are = alone_row network batch c.requires.batch l.at behind.result some others behind.ensures.some far c.neighbours_of-neighbours.result.now c.weights_of-weights.result.now near_are weights_are in
    let inside_slots : behind.result ≤ length batch.slots.items = in_slots network batch c.requires.batch l.at behind.result some others behind.ensures.some far in
    record {
      late = omega (arith, l.invariant.late, behind.ensures.some);
      rules = c.take_row.ensures.rules ∙ l.invariant.rules;
      count = c.take_row.ensures.count ∙ l.invariant.count;
      lanes = λ i d inside.
          lane_step a.block.now.rules l.block.rules network a.round a.from.now l.invariant.rules
          batch l.at behind.result 1 group (slot_in batch.slots.items l.at (omega (arith, inside_slots, behind.ensures.some))) l.block.lanes c.take_row.new.self.lanes i d c.requires.network
          (alone_group network batch c.requires.batch l.at behind.result some others behind.ensures.some far)
          c.take_row.ensures.nodes (λ i d nears low. for_first (λ i. length nears + length group ≤ 4294967295 → HasGathered l.block.rules nears (slice_index_or l.block.lanes i d)
          → HasGathered l.block.rules (nears ++ map (near_in a.from.now i) group) (slice_index_or c.take_row.new.self.lanes i d)) (c.take_row.ensures.gathered d nears group are) i low) c.take_row.ensures.others (l.invariant.lanes i d inside) inside (cases_lt i 1);
    }

pub returns-clause-lanes : goal.returns-clause-lanes
returns-clause-lanes c = λ i d inside.
    let a = c.args in
    let network = a.network.now in
    let batch = a.batch.now in
    let at = c.loop-at.at in
    let u = slice_index batch.nodes 0 in
    let near_are = c.neighbours_of-neighbours.ensures.exact ∙ ap (λ u. map (λ a. a.0) (row network u)) c.first_node-node.ensures.exact in
    let first : degree network u ≤ at = omega (arith, c.loop-at-test.false, ap length near_are, length-map (row network u) (λ a. a.0)) in
    c.loop-at.invariant.lanes i d inside ∙ gathered_whole a.block.now.rules network a.round a.from.now at (slice_index batch.nodes i) (past i inside first (cases_lt i 1))
  where
    past : (i : ℕ) → i < length c.args.batch.now.nodes → degree c.args.network.now (slice_index c.args.batch.now.nodes 0) ≤ c.loop-at.at → ((i < 1) ⊎ (1 ≤ i))
        → degree c.args.network.now (slice_index c.args.batch.now.nodes i) ≤ c.loop-at.at
    past i inside first (inl h) = for_first (λ i. degree c.args.network.now (slice_index c.args.batch.now.nodes i) ≤ c.loop-at.at) first i h
    past i inside first (inr h) = omega (arith, c.requires.alone i h inside, c.loop-at.invariant.late)
