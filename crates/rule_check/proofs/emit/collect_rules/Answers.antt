use Rattle.std.proofs.Common.{◌+◌, drop, string_bytes, length-append, arith}
use Rattle.std.proofs.lemmas.Grind.{common_steps}
use Rattle.rule_lang.specs.View.{tree_of, items_of}
use Rattle.rule_check.specs.Fields.{field_names}
use Rattle.rule_check.specs.Items.{nexts_of}
use Rattle.rule_check.specs.Value.{Next, parts}
use Rattle.rule_check.specs.WellFormed.{all_parts}
use Rattle.rule_check.proofs.Collects.{next_begins, no_next_begins, rules_turn}
use Rattle.rule_check.proofs.emit.collect_rules.Goals as goal
use Rattle.rule_check.proofs.emit.collect_rules.Goals.{in-Next+in_ok-first+in_ok-push, in_default}

pub loop-item-preserved : goal.loop-item-preserved
loop-item-preserved c =
    let items = c.args.items.now in
    let i = c.loop-item.item-index in
    elim c.match-item.branch [
      | in-Next+in_ok-first+in_ok-push w ↦
          let n : Next = record { name = string_bytes w.in-Next.name; body = tree_of w.in-Next.body } in
          let begins = next_begins items i c.item-item.result c.loop-item-test.true c.item-item.is w.in-Next.name w.in-Next.body w.in-Next.is in
          let sums = rw begins at c.loop-item.invariant.sums in
          let rest = rw begins at c.loop-item.invariant.rest in
          record {
            sums = omega (arith, w.first-is, w.in_ok-first.ensures.next, sums, length-append (parts (tree_of w.in-Next.body)) (all_parts (nexts_of (items_of (drop (i + 1) items)))));
            rest = rw (w.rules-is, w.in_ok-push.ensures.items, w.first-is, w.in_ok-first.ensures.next) (rules_turn (field_names c.args.fields.now) c.loop-item.rules.items _ c.loop-item.first n (nexts_of (items_of (drop (i + 1) items))) _
                (grind (arith, common_steps, w.place_of-field.ensures.value, w.in_ok-first.ensures.code, w.new-code.ensures.items, w.as_str.ensures.value)) rest);
          }
      | in_default w ↦
          let begins = no_next_begins items i c.item-item.result c.loop-item-test.true c.item-item.is w.in_default.not-Next in
          record { sums = rw (w.first-is, ← begins) c.loop-item.invariant.sums; rest = rw (w.rules-is, w.first-is, ← begins) c.loop-item.invariant.rest }
    ]
