use Rattle.std.proofs.Common.{◌≡◌, ◌∙◌, string_bytes, append_assoc}
use Rattle.rule_check.proofs.Collects.{field_begins, no_field_begins}
use Rattle.rule_check.proofs.emit.collect_fields.Goals as goal
use Rattle.rule_check.proofs.emit.collect_fields.Goals.{in-Field+in_ok-name+in_ok-push, in_default}

pub loop-item-preserved : goal.loop-item-preserved
loop-item-preserved c =
    let items = c.args.items.now in
    let i = c.loop-item.item-index in
    elim c.match-item.branch [
      | in-Field+in_ok-name+in_ok-push w ↦
          let named : w.in_ok-name.name ≡ string_bytes w.in-Field.name = w.in_ok-name.ensures.exact ∙ w.as_str.ensures.value in
          let before = rw (field_begins items i c.item-item.result c.loop-item-test.true c.item-item.is w.in-Field.name w.in-Field.value w.in-Field.is) at c.loop-item.invariant in
          rw (w.fields-is, w.in_ok-push.ensures.items, append_assoc, named) before
      | in_default w ↦ rw (w.fields-is, ← no_field_begins items i c.item-item.result c.loop-item-test.true c.item-item.is w.in_default.not-Field) c.loop-item.invariant
    ]
