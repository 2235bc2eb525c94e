use Rattle.std.proofs.Common.{◌+◌, drop, string_bytes}
use Rattle.rule_lang.specs.View.{tree_of, items_of}
use Rattle.rule_check.specs.Items.{nexts_of}
use Rattle.rule_check.specs.Value.{Next}
use Rattle.rule_check.proofs.Collects.{next_begins, no_next_begins}
use Rattle.rule_cuts.proofs.Found.{found_turn}
use Rattle.rule_cuts.proofs.operations.operations_in.Goals as goal
use Rattle.rule_cuts.proofs.operations.operations_in.Goals.{in-Next+in_ok-collect, in_default}

pub loop-item-preserved : goal.loop-item-preserved
loop-item-preserved c =
    let items = c.args.items.now in
    let i = c.loop-item.item-index in
    elim c.match-item.branch [
      | in-Next+in_ok-collect w ↦
          let n : Next = record { name = string_bytes w.in-Next.name; body = tree_of w.in-Next.body } in
          let begins = next_begins items i c.item-item.result c.loop-item-test.true c.item-item.is w.in-Next.name w.in-Next.body w.in-Next.is in
          let rest = rw begins at c.loop-item.invariant.all in
          rw w.found-is record {
            all = found_turn c.loop-item.found.items w.collect.new.found.items n (nexts_of (items_of (drop (i + 1) items))) _ w.in_ok-collect.ensures.put rest;
            ranges = w.in_ok-collect.ensures.ranges c.loop-item.invariant.ranges;
          }
      | in_default w ↦
          rw (w.found-is, ← no_next_begins items i c.item-item.result c.loop-item-test.true c.item-item.is w.in_default.not-Next) c.loop-item.invariant
    ]
