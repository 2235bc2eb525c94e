use Rattle.std.proofs.Common.{◌≡◌, take}
use Rattle.rule_lang.specs.View.{items_of}
use Rattle.rule_lang.proofs.same.same_items.Given as goal

abbrev pub invariant-loop-i : goal.invariant-loop-i
invariant-loop-i l = items_of (take l.i l.left) ≡ items_of (take l.i l.right)
