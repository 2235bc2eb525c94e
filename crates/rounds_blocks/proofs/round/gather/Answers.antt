use Rattle.std.proofs.Common.{◌-◌, ◌∙◌, ap, sym, arith, take, drop, length, slice_index}
use Rattle.std.proofs.lemmas.Bool.{cases_lt}
use Rattle.rounds_blocks.specs.Gathered.{gathered, gathered_first}
use Rattle.rounds_blocks.proofs.Groups.{group_made, group_within}
use Rattle.rounds_blocks.proofs.Steps.{lane_step}
use Rattle.rounds_blocks.proofs.round.gather.Goals as goal

pub take_slots-requires-clause-within : goal.take_slots-requires-clause-within
take_slots-requires-clause-within c =
    let a = c.args in
    let behind = c.group_end-behind in
    let slots = c.deref-in-loop-at-2.result.now in
    let group = take (behind.result - c.loop-at.at) (drop c.loop-at.at slots) in
    group_within a.network.now a.batch.now c.loop-at.at behind.result c.count-count.result group
    (group_made a.network.now a.batch.now c.loop-at.at behind.result c.count-count.result c.deref-in-loop-at.result.now slots c.requires.batch c.deref-in-loop-at.ensures.value c.deref-in-loop-at-2.ensures.value
    behind.ensures.some behind.ensures.inside behind.ensures.alike)
    a.from.now c.requires.network c.requires.nodes

pub loop-at-preserved : goal.loop-at-preserved
loop-at-preserved c =
    let a = c.args in
    let l = c.loop-at in
    let behind = c.group_end-behind in
    let slots = c.deref-in-loop-at-2.result.now in
    let count = c.count-count.result in
    record {
      inside = omega (arith, behind.ensures.inside, ap length c.deref-in-loop-at.ensures.value);
      rules = c.take_slots.ensures.rules ∙ l.invariant.rules;
      count = c.take_slots.ensures.count ∙ l.invariant.count;
      lanes = λ i d inside.
          lane_step a.block.now.rules l.block.rules a.network.now a.round a.from.now l.invariant.rules
          a.batch.now l.at behind.result count (take (behind.result - l.at) (drop l.at slots)) c.index.result.now l.block.lanes c.take_slots.new.self.lanes i d c.requires.network
          (group_made a.network.now a.batch.now l.at behind.result count c.deref-in-loop-at.result.now slots c.requires.batch c.deref-in-loop-at.ensures.value c.deref-in-loop-at-2.ensures.value
          behind.ensures.some behind.ensures.inside behind.ensures.alike)
          c.take_slots.ensures.nodes c.take_slots.ensures.gathered c.take_slots.ensures.others (l.invariant.lanes i d inside) inside (cases_lt i count);
    }

pub gather_alone-requires-clause-alone : goal.gather_alone-requires-clause-alone
gather_alone-requires-clause-alone c = λ i late inside. omega (arith, c.first_alone-alone.ensures.alone i late inside, c.loop-at-test.false)

pub gather_alone-requires-clause-lanes : goal.gather_alone-requires-clause-lanes
gather_alone-requires-clause-lanes c = λ i d inside.
    let a = c.args in
    let l = c.loop-at in
    l.invariant.lanes i d inside ∙ ap (λ rules. gathered_first rules a.network.now a.round a.from.now l.at (slice_index a.batch.now.nodes i)) (sym l.invariant.rules)

pub returns-clause-lanes : goal.returns-clause-lanes
returns-clause-lanes c = λ i d inside.
    let a = c.args in
    c.gather_alone.ensures.lanes i d inside ∙ ap (λ rules. gathered rules a.network.now a.round a.from.now (slice_index a.batch.now.nodes i)) c.loop-at.invariant.rules
