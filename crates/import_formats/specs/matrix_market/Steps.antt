-- Steps that may fail.
use Rattle.std.specs.Prelude.{ℕ, List, [], ◌∷◌, Result, Ok, Err}
use Rattle.import_formats.specs.declared.matrix_market.fault.MatrixLineFault.{MatrixLineFault}
use Rattle.import_formats.specs.declared.matrix_market.fault.MatrixFault.{MatrixFault}
use Rattle.import_formats.specs.declared.matrix_market.fault.MatrixFault.TheVariants.{BadLine}

-- the next step, at the value of a step that succeeds
abbrev pub and_then : {A B E : Type 0} → Result A E → (A → Result B E) → Result B E
and_then (Ok x) next = next x
and_then (Err fault) next = Err fault

-- the same result, its fault told in this way
abbrev pub told_as : {A E F : Type 0} → (E → F) → Result A E → Result A F
told_as way (Ok x) = Ok x
told_as way (Err fault) = Err (way fault)

-- a fault beside the number of its line
abbrev pub at_line : {A : Type 0} → ℕ → Result A MatrixLineFault → Result A MatrixFault
at_line number r = told_as (λ fault. BadLine number fault) r

-- all values, or the first fault
abbrev pub all_of : {A E : Type 0} → List (Result A E) → Result (List A) E
all_of [] = Ok []
all_of (r ∷ rs) = and_then r (λ x. and_then (all_of rs) (λ xs. Ok (x ∷ xs)))
