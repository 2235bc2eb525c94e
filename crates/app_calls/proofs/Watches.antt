-- Lists of rounds that a plan has, and what is told of them.
use Rattle.std.proofs.Common.{◌≡◌, ◌∙◌, ℕ, suc, ◌+◌, ◌*◌, ◌≤◌, ◌<◌, ◌++◌, Bool, true, false, List, [], ◌∷◌, Option, Some, None, Ok, Err, nat_lt, if◌then◌else◌, ap, arith, append_assoc, drop, length, refl, slice_index, subst, sym}
use Rattle.std.specs.Option.{option_or}
use Rattle.std.proofs.Math.Nat.{suc-mul}
use Rattle.std.proofs.Math.Seq.{drop-cons}
use Rattle.std.proofs.lemmas.Bool.{ltb-false}
use Rattle.std.proofs.lemmas.List.{length-append}
use Rattle.std.proofs.lemmas.List.FromFn.{length-map-range_with_len}
use Rattle.rule_check.specs.declared.state.State.{State}
use Rattle.rounds_plan.specs.declared.fault.RoundFault.{RoundFault}
use Rattle.rounds_plan.specs.declared.fault.RoundFault.TheVariants.{TooManyRounds, RoundsBelowStart}
use Rattle.rounds_plan.specs.Configs.{Configuration, most_rounds}
use Rattle.rounds_plan.specs.Lockstep.{lockstep, lockstep_config, lockstep_states, rounds_of}
use Rattle.rounds_plan.specs.Plans.{PlanView}
use Rattle.app_calls.specs.declared.fault.Fault.{Fault}
use Rattle.app_calls.specs.declared.fault.Fault.TheVariants.{Round, NotRising}
use Rattle.app_calls.specs.Refusals.{word_count}
use Rattle.app_calls.specs.Words.{entry_fault, list_fault}
use Rattle.app_calls.specs.declared.large.telling.Telling.{Telling}
use Rattle.app_calls.specs.Tellings.{told_at, told_count, told_in, told_of}

-- the fault of a round that a plan does not have
entry_by : (a b : Bool) (c : Configuration) (rest : Option Fault) (f : RoundFault)
    → (if a then Err TooManyRounds else if b then Err RoundsBelowStart else Ok c) ≡ Err f
    → (if a then Some (Round TooManyRounds) else if b then Some (Round RoundsBelowStart) else rest) ≡ Some (Round f)
entry_by true b c rest f h = cc
entry_by false true c rest f h = cc
entry_by false false c rest f h = absurd cc

pub entry_of : (p : PlanView) (least t : ℕ) (f : RoundFault) → rounds_of p t ≡ Err f → entry_fault p least t ≡ Some (Round f)
entry_of p least t f h = entry_by (nat_lt most_rounds t) (nat_lt t p.start) (lockstep_config p t) (if nat_lt t least then Some NotRising else None) f h

-- which rounds a plan has stands in its start
pub same_entry : (p q : PlanView) → p.start ≡ q.start → (least t : ℕ) → entry_fault p least t ≡ entry_fault q least t
same_entry p q same least t =
    ap (λ (s : ℕ). if nat_lt most_rounds t then Some (Round TooManyRounds) else if nat_lt t s then Some (Round RoundsBelowStart) else if nat_lt t least then Some NotRising else None) same

pub same_faults : (p q : PlanView) → p.start ≡ q.start → (least : ℕ) (rounds : List ℕ) → list_fault p least rounds ≡ list_fault q least rounds
same_faults p q same least [] = refl
same_faults p q same least (t ∷ rounds) =
    ap (λ (f : Option Fault). option_or f (list_fault p (t + 1) rounds)) (same_entry p q same least t)
    ∙ ap (λ (f : Option Fault). option_or (entry_fault q least t) f) (same_faults p q same (t + 1) rounds)

-- so what is true of a list of rounds for one plan is true for each that starts there
pub same_there : (p q : PlanView) (rounds : List ℕ) → p.start ≡ q.start → list_fault p p.start rounds ≡ None → list_fault q q.start rounds ≡ None
same_there p q rounds same there = ap (λ (s : ℕ). list_fault q s rounds) (sym same) ∙ sym (same_faults p q same p.start rounds) ∙ there

-- of no rounds nothing is told
pub none_left : (telling : Telling) (p : PlanView) (rounds : List ℕ) → length rounds ≡ 0 → told_at telling p rounds ≡ []
none_left telling p [] none = refl
none_left telling p (t ∷ rounds) none = absurd (omega (arith, none))

chosen : (a b c : Bool) → (if a then Some (Round TooManyRounds) else if b then Some (Round RoundsBelowStart) else if c then Some NotRising else None) ≡ None → (a ≡ false) × (c ≡ false)
chosen true b c h = cc
chosen false true c h = cc
chosen false false true h = cc
chosen false false false h = (refl, refl)

-- both are none where the first of them is
none_both : (a b : Option Fault) → option_or a b ≡ None → (a ≡ None) × (b ≡ None)
none_both (Some f) b h = cc
none_both None b h = (refl, h)

-- a round that has no fault lies within the limits
entry_within : (p : PlanView) (least t : ℕ) → entry_fault p least t ≡ None → (least ≤ t) × (t ≤ most_rounds)
entry_within p least t h =
    let both = chosen (nat_lt most_rounds t) (nat_lt t p.start) (nat_lt t least) h in
    (ltb-false t least both.1, ltb-false most_rounds t both.0)

-- where there is a round, the least one may not be above the limit
pub early : (p : PlanView) (least : ℕ) (rounds : List ℕ) → 0 < length rounds → list_fault p least rounds ≡ None → least ≤ most_rounds
early p least [] some h = absurd (omega (arith, some))
early p least (t ∷ rounds) some h =
    let within = entry_within p least t (none_both (entry_fault p least t) (list_fault p (t + 1) rounds) h).0 in
    let late = within.0 in
    let few = within.1 in
    omega (arith, late, few)

-- the first of the rounds that are left
pub record IsNext (p : PlanView) (least : ℕ) (rounds : List ℕ) (i : ℕ) : Type 0 where
  pub late : least ≤ slice_index rounds i
  pub few : slice_index rounds i ≤ most_rounds
  pub rest : list_fault p (slice_index rounds i + 1) (drop (i + 1) rounds) ≡ None

pub is_next : (p : PlanView) (least : ℕ) (rounds : List ℕ) (i : ℕ) → i < length rounds → list_fault p least (drop i rounds) ≡ None → IsNext p least rounds i
is_next p least rounds i inside h =
    let t = slice_index rounds i in
    let more : suc i ≡ i + 1 = omega arith in
    let parts : drop i rounds ≡ t ∷ drop (i + 1) rounds = drop-cons rounds i 0 inside ∙ ap (λ k. t ∷ drop k rounds) more in
    let both = none_both (entry_fault p least t) (list_fault p (t + 1) (drop (i + 1) rounds)) (subst (λ (l : List ℕ). list_fault p least l ≡ None) parts h) in
    let within = entry_within p least t both.0 in
    record { late = within.0; few = within.1; rest = both.1 }

-- what is told of the states of a round is what is told of its configuration
pub config_told : (telling : Telling) (p : PlanView) (t fields : ℕ) (states : List State) → states ≡ lockstep_states p t (length p.network) → fields ≡ length p.program.fields
    → told_in telling fields states ≡ told_of telling (lockstep_config p t)
config_told telling p t fields states are count = ap (λ (f : ℕ). told_in telling f states) count ∙ ap (told_in telling (length p.program.fields)) are

-- and these numbers are as many as are told of the plan's nodes
pub config_count : (telling : Telling) (p : PlanView) (t fields : ℕ) (states : List State) → states ≡ lockstep_states p t (length p.network) → fields ≡ length p.program.fields
    → length (told_in telling fields states) ≡ told_count telling (length states * fields) → length (told_of telling (lockstep_config p t)) ≡ told_count telling (word_count p)
config_count telling p t fields states are count each =
    let nodes : length states ≡ length p.network = ap length are ∙ length-map-range_with_len (lockstep p t) 0 (length p.network) in
    ap length (sym (config_told telling p t fields states are count)) ∙ each
    ∙ ap (λ (n : ℕ). told_count telling (n * fields)) nodes ∙ ap (λ (f : ℕ). told_count telling (length p.network * f)) count

-- what is told of one round more
pub rounds_more : (telling : Telling) (p : PlanView) (rounds out new whole : List ℕ) (i : ℕ) → i < length rounds → new ≡ out ++ told_of telling (lockstep_config p (slice_index rounds i))
    → out ++ told_at telling p (drop i rounds) ≡ whole → new ++ told_at telling p (drop (i + 1) rounds) ≡ whole
rounds_more telling p rounds out new whole i inside is left =
    let t = slice_index rounds i in
    let more : suc i ≡ i + 1 = omega arith in
    let here = told_of telling (lockstep_config p t) in
    let rest = told_at telling p (drop (i + 1) rounds) in
    let parts : drop i rounds ≡ t ∷ drop (i + 1) rounds = drop-cons rounds i 0 inside ∙ ap (λ k. t ∷ drop k rounds) more in
    let next : told_at telling p (drop i rounds) ≡ here ++ rest = ap (told_at telling p) parts in
    ap (λ l. l ++ rest) is ∙ append_assoc out here rest ∙ ap (λ l. out ++ l) (sym next) ∙ left

-- and how many numbers there are then
pub count_more : (out new here : List ℕ) (i n : ℕ) → new ≡ out ++ here → length here ≡ n → length out ≡ i * n → length new ≡ (i + 1) * n
count_more out new here i n is count had =
    let more : i + 1 ≡ suc i = omega arith in
    let sum : length new ≡ length out + length here = ap length is ∙ length-append out here in
    let step : (i + 1) * n ≡ i * n + n = ap (λ k. k * n) more ∙ suc-mul i n in
    sum ∙ ap (λ k. k + length here) had ∙ ap (λ k. i * n + k) count ∙ sym step
