use Rattle.std.proofs.Common.{◌+◌, drop, string_bytes}
use Rattle.rule_lang.specs.View.{tree_of, items_of}
use Rattle.rule_check.specs.Fields.{field_names}
use Rattle.rule_check.specs.Items.{nexts_of}
use Rattle.rule_check.specs.Value.{Next}
use Rattle.rule_check.specs.WellFormed.{nests}
use Rattle.rule_check.proofs.Booleans.{neither}
use Rattle.rule_check.proofs.Collects.{next_begins, no_next_begins, parts_turn}
use Rattle.rule_check.proofs.emit.collect_parts.Goals as goal
use Rattle.rule_check.proofs.emit.collect_parts.Goals.{in-Next+in_ok-emit_parts, in_default}

pub emit_parts-requires-clause-flat : goal.emit_parts-requires-clause-flat
emit_parts-requires-clause-flat c =
    let begins = next_begins c.args.items.now c.loop-item.item-index c.item-item.result c.loop-item-test.true c.item-item.is c.in-Next.name c.in-Next.body c.in-Next.is in
    (neither (nests (tree_of c.in-Next.body)) _ (rw begins at c.loop-item.invariant.flat)).0

pub loop-item-preserved : goal.loop-item-preserved
loop-item-preserved c =
    let items = c.args.items.now in
    let i = c.loop-item.item-index in
    elim c.match-item.branch [
      | in-Next+in_ok-emit_parts w ↦
          let n : Next = record { name = string_bytes w.in-Next.name; body = tree_of w.in-Next.body } in
          let begins = next_begins items i c.item-item.result c.loop-item-test.true c.item-item.is w.in-Next.name w.in-Next.body w.in-Next.is in
          let flat = rw begins at c.loop-item.invariant.flat in
          let rest = rw begins at c.loop-item.invariant.rest in
          record {
            flat = (neither (nests (tree_of w.in-Next.body)) _ flat).1;
            rest = rw w.gatherers-is (parts_turn (field_names c.args.fields.now) c.loop-item.gatherers.items w.emit_parts.new.gatherers.items n (nexts_of (items_of (drop (i + 1) items))) _ w.in_ok-emit_parts.ensures.exact rest);
          }
      | in_default w ↦
          let begins = no_next_begins items i c.item-item.result c.loop-item-test.true c.item-item.is w.in_default.not-Next in
          record { flat = rw (← begins) c.loop-item.invariant.flat; rest = rw (w.gatherers-is, ← begins) c.loop-item.invariant.rest }
    ]
