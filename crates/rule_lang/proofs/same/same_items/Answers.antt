use Rattle.std.proofs.Common.{◌≡◌, length, arith, IsTrue, false, refl}
use Rattle.std.specs.Prelude.{◌↔◌}
use Rattle.rule_lang.specs.View.{item_of}
use Rattle.rule_lang.proofs.Equality.{more_same, each_same}
use Rattle.rule_lang.proofs.same.same_items.Goals as goal

pub returns-then-not-same_item : goal.returns-then-not-same_item
returns-then-not-same_item c =
    let test : IsTrue false ↔ (item_of c.index-left-i.result ≡ item_of c.index-right-i.result) = c.if-not-same_item.ensures in
    let lengths : length c.args.left.now ≡ length c.args.right.now = c.if-left-right.false in
    let inside = c.loop-i-test.true in
    ((λ e. absurd (cc)), λ e. test.1 (each_same c.args.left.now c.args.right.now c.loop-i.i c.index-left-i.result c.index-right-i.result inside (omega arith) c.index-left-i.is c.index-right-i.is e))

pub loop-i-preserved : goal.loop-i-preserved
loop-i-preserved c =
    let lengths : length c.args.left.now ≡ length c.args.right.now = c.if-left-right.false in
    let inside = c.loop-i-test.true in
    more_same c.args.left.now c.args.right.now c.loop-i.i c.index-left-i.result c.index-right-i.result inside (omega arith) c.index-left-i.is c.index-right-i.is c.loop-i.invariant (c.if-not-same_item.ensures.0 refl)
