-- Which faults a list of rounds has.
use Rattle.std.proofs.Common.{◌≡◌, ℕ, ◌+◌, Bool, true, false, List, [], ◌∷◌, Option, Some, None, nat_lt, if◌then◌else◌, subst}
use Rattle.std.specs.Option.{option_or}
use Rattle.rounds_plan.specs.declared.fault.RoundFault.TheVariants.{TooManyRounds, RoundsBelowStart}
use Rattle.rounds_plan.specs.Configs.{most_rounds}
use Rattle.rounds_plan.specs.Plans.{PlanView}
use Rattle.app_calls.specs.declared.fault.Fault.{Fault}
use Rattle.app_calls.specs.declared.fault.Fault.TheVariants.{Texts, Round, Replay, Settle, NotRising, NoJob, Room, Memory}
use Rattle.app_calls.specs.Refusals.{AreNoRounds}
use Rattle.app_calls.specs.Words.{entry_fault, list_fault}

abbrev pub IsOfList : Fault → Type 0
IsOfList (Round f) = Unit {0}
IsOfList NotRising = Unit {0}
IsOfList f = ⊥

chosen : (a b c : Bool) (f : Fault) → (if a then Some (Round TooManyRounds) else if b then Some (Round RoundsBelowStart) else if c then Some NotRising else None) ≡ Some f → IsOfList f
chosen true b c f h = let e : Round TooManyRounds ≡ f = cc in subst IsOfList e tt
chosen false true c f h = let e : Round RoundsBelowStart ≡ f = cc in subst IsOfList e tt
chosen false false true f h = let e : NotRising ≡ f = cc in subst IsOfList e tt
chosen false false false f h = cc

either : (a b : Option Fault) (f : Fault) → ((g : Fault) → a ≡ Some g → IsOfList g) → ((g : Fault) → b ≡ Some g → IsOfList g) → option_or a b ≡ Some f → IsOfList f
either (Some g) b f first second h = first f h
either None b f first second h = second f h

pub of_list : (p : PlanView) (least : ℕ) (rounds : List ℕ) (f : Fault) → list_fault p least rounds ≡ Some f → IsOfList f
of_list p least [] f h = cc
of_list p least (t ∷ rounds) f h =
    either (entry_fault p least t) (list_fault p (t + 1) rounds) f
    (λ g e. chosen (nat_lt most_rounds t) (nat_lt t p.start) (nat_lt t least) g e)
    (λ g e. of_list p (t + 1) rounds g e) h

pub no_rounds : (p : PlanView) (rounds : List ℕ) (room nodes fields : ℕ) (f : Fault) → list_fault p p.start rounds ≡ Some f → AreNoRounds rounds room nodes fields p f
no_rounds p rounds room nodes fields (Texts g) h = absurd (of_list p p.start rounds (Texts g) h)
no_rounds p rounds room nodes fields (Round g) h = h
no_rounds p rounds room nodes fields (Replay g) h = absurd (of_list p p.start rounds (Replay g) h)
no_rounds p rounds room nodes fields (Settle g) h = absurd (of_list p p.start rounds (Settle g) h)
no_rounds p rounds room nodes fields NotRising h = h
no_rounds p rounds room nodes fields NoJob h = absurd (of_list p p.start rounds NoJob h)
no_rounds p rounds room nodes fields Room h = absurd (of_list p p.start rounds Room h)
no_rounds p rounds room nodes fields Memory h = tt
