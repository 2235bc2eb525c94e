-- Turns of the loop that collects operators.
use Rattle.std.proofs.Common.{◌≡◌, ◌∙◌, List, ◌∷◌, ◌++◌, map, ap, append_assoc}
use Rattle.std.specs.Prelude.{false}
use Rattle.rule_check.specs.Value.{Next}
use Rattle.run_cuts.specs.declared.operators.Operator.{Operator}
use Rattle.run_cuts.specs.Operators.{OperatorTree, operators, next_operators}
use Rattle.run_cuts.specs.Counting.{operator_of}

-- those of one more next item
pub found_turn : (done more : List Operator) (n : Next) (ns : List Next) (all : List OperatorTree)
    → map operator_of more ≡ map operator_of done ++ operators false n.body
    → map operator_of done ++ next_operators (n ∷ ns) ≡ all → map operator_of more ++ next_operators ns ≡ all
found_turn done more n ns all made before =
    ap (λ os. os ++ next_operators ns) made
    ∙ append_assoc (map operator_of done) (operators false n.body) (next_operators ns)
    ∙ before
