-- What a call answers that is exact up to memory.
use Rattle.std.specs.Prelude.{◌≡◌, ◌≢◌, MatchResult, Result, Ok, Err}

-- the result is the defined one; or it is the fault that stands for running out of memory
abbrev pub IsAnswer : {A E : Type 0} → E → Result A E → Result A E → Type 0
IsAnswer memory defined r = MatchResult r (λ x. defined ≡ Ok x) (λ fault. fault ≢ memory → defined ≡ Err fault)
