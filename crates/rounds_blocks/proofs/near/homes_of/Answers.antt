use Rattle.std.proofs.Common.{◌≡◌, ◌∙◌, ◌+◌, ◌⊎◌, ℕ, List, All, sym, subst, ap, length, slice_index, take}
use Rattle.std.specs.List.{Contains}
use Rattle.std.proofs.lemmas.List.{take_all}
use Rattle.rounds_code.proofs.Nodes.{refilled}
use Rattle.rounds_blocks.specs.declared.batch.Batch.{Batch}
use Rattle.rounds_blocks.specs.Batches.{nodes_of}
use Rattle.rounds_blocks.specs.Nears.{StandsIn}
use Rattle.rounds_blocks.proofs.Homes.{homes_more}
use Rattle.rounds_blocks.proofs.Ranges.{each_number}
use Rattle.rounds_blocks.proofs.near.homes_of.Goals as goal

pub loop-i-preserved : goal.loop-i-preserved
loop-i-preserved c =
    let l = c.loop-i in
    let batches = c.args.batches.now in
    let batch = c.index-batches-i.result in
    let made = refilled l.homes.len c.settle.new.homes l.homes.items (c.settle.auto.homes ∙ c.deref_mut.ensures.len) in
    record {
      count = ap length made ∙ c.settle.auto.homes ∙ ap length c.deref_mut.ensures.value ∙ l.invariant.count;
      settled = subst (λ (homes : List ℕ). All (λ u. StandsIn batches u (slice_index homes u)) (nodes_of (take (l.i + 1) batches))) (sym made)
          (homes_more batches l.i batch c.deref_mut.result.now c.settle.new.homes c.loop-i-test.true c.index-batches-i.is
          (subst (λ (nodes : List ℕ). (u : ℕ) → (slice_index c.settle.new.homes u ≡ slice_index c.deref_mut.result.now u) ⊎ ((slice_index c.settle.new.homes u ≡ l.i) × Contains nodes u)) c.as_slice.ensures.exact c.settle.ensures.others)
          (subst (All (λ u. slice_index c.settle.new.homes u ≡ l.i)) c.as_slice.ensures.exact c.settle.ensures.here)
          (subst (λ (homes : List ℕ). All (λ u. StandsIn batches u (slice_index homes u)) (nodes_of (take l.i batches))) (sym c.deref_mut.ensures.value) l.invariant.settled));
    }

pub returns-clause-homes : goal.returns-clause-homes
returns-clause-homes c = λ u inside.
    let l = c.loop-i in
    let batches = c.args.batches.now in
    let P = λ (w : ℕ). StandsIn batches w (slice_index l.homes.items w) in
    each_number P c.args.nodes (nodes_of batches) c.requires.once
    (subst (λ (bs : List Batch). All P (nodes_of bs)) (take_all l.i batches c.loop-i-test.false) l.invariant.settled) u inside
