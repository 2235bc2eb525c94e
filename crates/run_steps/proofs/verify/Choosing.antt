-- Steps that may fail.
use Rattle.std.proofs.Common.{◌≡◌, ◌⊎◌, refl, Result, Ok, Err, inl, inr}
use Rattle.run_steps.specs.declared.verify.fault.VerifyFault.{VerifyFault}
use Rattle.run_steps.specs.verify.Fields.{and_then}

-- a step that succeeds, and the one before it
pub then-ok : {A B : Type 0} (r : Result A VerifyFault) (f : A → Result B VerifyFault) (y : B) → and_then r f ≡ Ok y → (x : A) × (r ≡ Ok x) × (f x ≡ Ok y)
then-ok (Ok x) f y h = (x, refl, h)
then-ok (Err e) f y h = absurd (cc)

-- a step that fails, or the one before it
pub then-err : {A B : Type 0} (r : Result A VerifyFault) (f : A → Result B VerifyFault) (e : VerifyFault) → and_then r f ≡ Err e → (r ≡ Err e) ⊎ ((x : A) × (r ≡ Ok x) × (f x ≡ Err e))
then-err (Ok x) f e h = inr (x, refl, h)
then-err (Err d) f e h = inl (cc)
