use Rattle.std.proofs.Common.{◌≡◌, ◌++◌, drop, string_bytes}
use Rattle.std.specs.List.{AllByRecursion}
use Rattle.rule_lang.specs.View.{items_of}
use Rattle.rule_lang.specs.Numbers.{HasItemNumbers}
use Rattle.model_rules.specs.Written.{commented}
use Rattle.model_rules.proofs.spelling.spelled.Given as goal

abbrev pub invariant-loop-k : goal.invariant-loop-k
invariant-loop-k l =
    (string_bytes l.out ++ commented (drop l.k l.lines) (items_of (drop l.k l.rules)) ≡ commented l.lines (items_of l.rules))
    × (AllByRecursion HasItemNumbers (items_of (drop l.k l.rules)) → AllByRecursion HasItemNumbers (items_of l.rules))
