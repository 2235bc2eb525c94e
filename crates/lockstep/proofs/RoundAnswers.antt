-- What a round that is asked for comes to.
use Rattle.std.proofs.Common.{◌≡◌, ℕ, ◌≤◌, refl, arith, false, nat_lt, Result, Ok, Err}
use Rattle.std.specs.Result.{IsErrAnd}
use Rattle.std.proofs.lemmas.Bool.Decides.{nat_tests}
use Rattle.rounds_plan.specs.declared.fault.RoundFault.{RoundFault}
use Rattle.rounds_plan.specs.declared.fault.RoundFault.TheVariants as round
use Rattle.rounds_plan.specs.Answer.{IsAnswer}
use Rattle.rounds_plan.specs.Configs.{most_rounds}
use Rattle.rounds_plan.specs.Lockstep.{rounds_of, lockstep_config}
use Rattle.rounds_plan.specs.Plans.{PlanView}

-- a round within the limits is there
pub round_there : (p : PlanView) (t : ℕ) → p.start ≤ t → t ≤ most_rounds → rounds_of p t ≡ Ok (lockstep_config p t)
round_there p t late few =
    let no : nat_lt most_rounds t ≡ false = grind (arith, nat_tests) in
    let not : nat_lt t p.start ≡ false = grind (arith, nat_tests) in
    rw no (rw not refl)

-- want of memory alone is an answer whatever is defined
pub memory_answer : {A : Type 0} (defined r : Result A RoundFault) → IsErrAnd r (λ f. f ≡ round.Memory) → IsAnswer round.Memory defined r
memory_answer defined (Ok x) is = absurd is
memory_answer defined (Err f) is = λ apart. absurd (apart is)
