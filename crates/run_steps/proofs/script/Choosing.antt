-- Steps that may fail.
use Rattle.std.proofs.Common.{◌≡◌, Bool, true, false, if◌then◌else◌, ◌⊎◌, refl, Result, Ok, Err, inl, inr}
use Rattle.run_steps.specs.declared.script.fault.StepTextFault.{StepTextFault}
use Rattle.run_steps.specs.script.Meaning.{and_then}

-- a step that succeeds, and the one before it
pub then-ok : {A B : Type 0} (r : Result A StepTextFault) (f : A → Result B StepTextFault) (y : B) → and_then r f ≡ Ok y → (x : A) × (r ≡ Ok x) × (f x ≡ Ok y)
then-ok (Ok x) f y h = (x, refl, h)
then-ok (Err e) f y h = absurd (cc)

-- a step that fails, or the one before it
pub then-err : {A B : Type 0} (r : Result A StepTextFault) (f : A → Result B StepTextFault) (e : StepTextFault) → and_then r f ≡ Err e → (r ≡ Err e) ⊎ ((x : A) × (r ≡ Ok x) × (f x ≡ Err e))
then-err (Ok x) f e h = inr (x, refl, h)
then-err (Err d) f e h = inl (cc)

-- which of two a choice is
pub choice : {A : Type 0} (b : Bool) (x y z : A) → (if b then x else y) ≡ z → ((b ≡ true) × (x ≡ z)) ⊎ ((b ≡ false) × (y ≡ z))
choice true x y z h = inl (refl, h)
choice false x y z h = inr (refl, h)
