use Rattle.std.proofs.Common.{◌≡◌, ◌++◌, drop, string_bytes}
use Rattle.rule_lang.specs.View.{items_of}
use Rattle.rule_lang.specs.Canonical.{program_text}
use Rattle.rule_lang.proofs.write.write_program.Given as goal

abbrev pub invariant-loop-item : goal.invariant-loop-item
invariant-loop-item l = (string_bytes l.out ++ program_text (items_of (drop l.item-index l.item-items)) ≡ program_text l.fn.source)
