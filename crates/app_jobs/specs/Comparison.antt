-- How a difference is told.
use Rattle.std.specs.Prelude.{ℕ, List, [], ◌∷◌, ◌++◌, codes, slice_index_or}
use Rattle.std.specs.Fmt.{decimal}
use Rattle.rounds_plan.specs.declared.difference.Difference.{Difference}

-- the line `node U field NAME lockstep A run B` with its LF: the node, the field's name, the value by lockstep rounds and the value of the run
abbrev pub difference_text : List (List ℕ) → Difference → List ℕ
difference_text names d =
    codes "node " ++ (decimal d.node ++ (codes " field " ++ (slice_index_or names d.field [] ++ (codes " lockstep " ++ (decimal d.left ++ (codes " run " ++ (decimal d.right ++ 10 ∷ [])))))))
