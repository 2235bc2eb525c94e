-- Steps of which each needs the one before it.
use Rattle.std.specs.Prelude.{Result, Ok, Err}

-- the next step, at the value of a step that succeeds
abbrev pub and_then : {A B E : Type 0} → Result A E → (A → Result B E) → Result B E
and_then (Ok x) next = next x
and_then (Err fault) next = Err fault

-- a result whose fault is said as one of another kind
abbrev pub fault_as : {A E F : Type 0} → (E → F) → Result A E → Result A F
fault_as kind (Ok x) = Ok x
fault_as kind (Err fault) = Err (kind fault)
