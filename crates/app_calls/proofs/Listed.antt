-- Lists of rounds that a plan has, and how many words they have.
use Rattle.std.proofs.Common.{◌≡◌, ◌∙◌, ℕ, suc, ◌+◌, ◌*◌, ◌≤◌, ◌<◌, ◌++◌, Bool, true, false, List, ◌∷◌, Option, Some, None, Result, Ok, Err, nat_lt, if◌then◌else◌, ap, arith, append_assoc, drop, length, refl, slice_index, subst, sym}
use Rattle.std.specs.Option.{option_or}
use Rattle.std.proofs.Math.Nat.{suc-mul}
use Rattle.std.proofs.Math.Seq.{drop-cons}
use Rattle.std.proofs.lemmas.Bool.{ltb-false}
use Rattle.std.proofs.lemmas.List.{length-append}
use Rattle.std.proofs.lemmas.List.FromFn.{length-map-range_with_len}
use Rattle.rounds_plan.specs.declared.fault.RoundFault.{RoundFault}
use Rattle.rounds_plan.specs.declared.fault.RoundFault.TheVariants.{TooManyRounds, RoundsBelowStart}
use Rattle.rounds_plan.specs.Configs.{Configuration, most_rounds}
use Rattle.rounds_plan.specs.Lockstep.{lockstep, lockstep_config, lockstep_states}
use Rattle.rounds_plan.specs.Plans.{PlanView}
use Rattle.app_calls.specs.declared.fault.Fault.{Fault}
use Rattle.app_calls.specs.declared.fault.Fault.TheVariants.{NotRising, Round}
use Rattle.app_calls.specs.Refusals.{word_count}
use Rattle.app_calls.specs.Words.{entry_fault, list_fault, words_at, words_of}

-- a configuration of the plan has as many words as its nodes have
pub lockstep_count : (p : PlanView) (t : ℕ) (c : Configuration) → c ≡ lockstep_config p t → length (words_of c) ≡ length c.states * c.fields → length (words_of (lockstep_config p t)) ≡ word_count p
lockstep_count p t c is count =
    let at : length (words_of (lockstep_config p t)) ≡ length (lockstep_states p t (length p.network)) * length p.program.fields = subst (λ (d : Configuration). length (words_of d) ≡ length d.states * d.fields) is count in
    at ∙ ap (λ n. n * length p.program.fields) (length-map-range_with_len (lockstep p t) 0 (length p.network))

-- the configuration that a call answers is the one that the round has
pub same_answer : (r : Result Configuration RoundFault) (c d : Configuration) → r ≡ Ok c → r ≡ Ok d → c ≡ d
same_answer (Ok e) c d found there = cc
same_answer (Err f) c d found there = cc

-- both are none where the first of them is
pub none_both : (a b : Option Fault) → option_or a b ≡ None → (a ≡ None) × (b ≡ None)
none_both (Some f) b h = cc
none_both None b h = (refl, h)

chosen : (a b c : Bool) → (if a then Some (Round TooManyRounds) else if b then Some (Round RoundsBelowStart) else if c then Some NotRising else None) ≡ None → (a ≡ false) × (c ≡ false)
chosen true b c h = cc
chosen false true c h = cc
chosen false false true h = cc
chosen false false false h = (refl, refl)

-- a round that has no fault lies within the limits
pub entry_within : (p : PlanView) (least t : ℕ) → entry_fault p least t ≡ None → (least ≤ t) × (t ≤ most_rounds)
entry_within p least t h =
    let both = chosen (nat_lt most_rounds t) (nat_lt t p.start) (nat_lt t least) h in
    (ltb-false t least both.1, ltb-false most_rounds t both.0)

-- the first of the rounds that are left
pub record IsNext (p : PlanView) (least : ℕ) (rounds : List ℕ) (i : ℕ) : Type 0 where
  pub late : least ≤ slice_index rounds i
  pub few : slice_index rounds i ≤ most_rounds
  pub rest : list_fault p (slice_index rounds i + 1) (drop (i + 1) rounds) ≡ None

pub is_next : (p : PlanView) (least : ℕ) (rounds : List ℕ) (i : ℕ) → i < length rounds → list_fault p least (drop i rounds) ≡ None → IsNext p least rounds i
is_next p least rounds i inside h =
    let t = slice_index rounds i in
    let more : suc i ≡ i + 1 = omega arith in
    let parts : drop i rounds ≡ t ∷ drop (i + 1) rounds = drop-cons rounds i 0 inside ∙ ap (λ k. t ∷ drop k rounds) more in
    let both = none_both (entry_fault p least t) (list_fault p (t + 1) (drop (i + 1) rounds)) (subst (λ (l : List ℕ). list_fault p least l ≡ None) parts h) in
    let within = entry_within p least t both.0 in
    record { late = within.0; few = within.1; rest = both.1 }

-- the words of one round more
pub words_more : (p : PlanView) (rounds out new whole : List ℕ) (i : ℕ) → i < length rounds → new ≡ out ++ words_of (lockstep_config p (slice_index rounds i)) → out ++ words_at p (drop i rounds) ≡ whole → new ++ words_at p (drop (i + 1) rounds) ≡ whole
words_more p rounds out new whole i inside is left =
    let t = slice_index rounds i in
    let more : suc i ≡ i + 1 = omega arith in
    let here = words_of (lockstep_config p t) in
    let rest = words_at p (drop (i + 1) rounds) in
    let parts : drop i rounds ≡ t ∷ drop (i + 1) rounds = drop-cons rounds i 0 inside ∙ ap (λ k. t ∷ drop k rounds) more in
    let next : words_at p (drop i rounds) ≡ here ++ rest = ap (words_at p) parts in
    ap (λ l. l ++ rest) is ∙ append_assoc out here rest ∙ ap (λ l. out ++ l) (sym next) ∙ left

-- and how many words there are then
pub count_more : (out new here : List ℕ) (i n : ℕ) → new ≡ out ++ here → length here ≡ n → length out ≡ i * n → length new ≡ (i + 1) * n
count_more out new here i n is count had =
    let more : i + 1 ≡ suc i = omega arith in
    let sum : length new ≡ length out + length here = ap length is ∙ length-append out here in
    let step : (i + 1) * n ≡ i * n + n = ap (λ k. k * n) more ∙ suc-mul i n in
    sum ∙ ap (λ k. k + length here) had ∙ ap (λ k. i * n + k) count ∙ sym step
