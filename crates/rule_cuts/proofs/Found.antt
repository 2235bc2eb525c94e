-- Turns of the loop that collects operations.
use Rattle.std.proofs.Common.{◌≡◌, ◌∙◌, List, ◌∷◌, ◌++◌, map, ap, append_assoc}
use Rattle.rule_check.specs.Value.{Next}
use Rattle.rule_cuts.specs.declared.operations.Operation.{Operation}
use Rattle.rule_cuts.specs.Operations.{OperationTree, next_operations, operation_of, operations}

-- those of one more next item
pub found_turn : (done more : List Operation) (n : Next) (ns : List Next) (all : List OperationTree)
    → map operation_of more ≡ map operation_of done ++ operations n.body
    → map operation_of done ++ next_operations (n ∷ ns) ≡ all → map operation_of more ++ next_operations ns ≡ all
found_turn done more n ns all made before =
    ap (λ os. os ++ next_operations ns) made
    ∙ append_assoc (map operation_of done) (operations n.body) (next_operations ns)
    ∙ before
