-- Answers that are defined, but for want of memory.
use Rattle.std.proofs.Common.{◌≡◌, ◌≢◌, ℕ, ◌-◌, ◌<◌, ◌≤◌, true, false, List, [], ◌∷◌, ◌++◌, length, nat_lt, subst, sym, refl, ap, ◌∙◌, Option, Some, None, Result, Ok, Err, IfErr, OnOk, inl, inr, arith}
use Rattle.std.proofs.lemmas.Bool.Decides.{nat_tests}
use Rattle.link_net.specs.Neighbours.{Neighbours}
use Rattle.unison_world.specs.declared.step.Step.{Step}
use Rattle.unison_trace.specs.Histories.{most_steps}
use Rattle.run_steps.specs.declared.script.action.Action.{Action}
use Rattle.run_steps.specs.declared.script.open_repeat.OpenRepeat.{OpenRepeat}
use Rattle.run_steps.specs.declared.script.line.Line.{Line}
use Rattle.run_steps.specs.declared.script.line.Line.TheVariants.{Act, Repeat, End}
use Rattle.run_steps.specs.declared.script.fault.StepTextFault.{StepTextFault}
use Rattle.run_steps.specs.declared.script.fault.StepTextFault.TheVariants.{Memory, TooDeep}
use Rattle.run_steps.specs.script.Meaning.{and_then}
use Rattle.run_steps.specs.script.Texts.{made_by, most_deep}
use Rattle.run_steps.specs.script.Runs.{Reading, IsAnswer, few_steps, repeated, last_open, but_last, ended, behind_line}
use Rattle.run_steps.proofs.script.Choosing.{then-ok, choice}
use Rattle.run_steps.proofs.script.Readings.{few-ok}

-- a fault that is passed on
pub answer-err : {A B : Type 0} (view : B → A) (defined : Result A StepTextFault) (r : Result B StepTextFault) (e fault : StepTextFault) → r ≡ Err e → e ≡ fault → (fault ≢ Memory → defined ≡ Err fault) → IsAnswer view defined r
answer-err view defined (Ok x) e fault is same h = absurd (cc)
answer-err view defined (Err d) e fault is same h =
    λ never. (let one : d ≡ fault = cc in h (λ m. never (one ∙ m)) ∙ ap Err (sym one))

-- what is so of no fault but Memory
pub memory-only : (fault : StepTextFault) → ((fault ≢ Memory) → ⊥) → fault ≡ Memory
memory-only Memory h = refl
memory-only fault h = absurd (h (λ e. cc))

-- the same answer, where both are defined alike
answer-same : {A B : Type 0} (view : B → A) (one other : Result A StepTextFault) (r : Result B StepTextFault) → one ≡ other → IsAnswer view one r → IsAnswer view other r
answer-same view one other r same h = subst (λ d. IsAnswer view d r) same h

-- the next step of an answer
answer-then : {A B C : Type 0} (ss : A) (f : A → Result C StepTextFault) (q : C) (defined : Result A StepTextFault) (r : Result B StepTextFault) → f ss ≡ Ok q → IsAnswer (λ (x : B). ss) defined r → IsAnswer (λ (x : B). q) (and_then defined f) r
answer-then ss f q defined (Ok x) is h = ap (λ t. and_then t f) h ∙ is
answer-then ss f q defined (Err d) is h = λ never. ap (λ t. and_then t f) (h never)

repeat-line : (network : Neighbours) (line k : ℕ) (r : Reading) → length r.opens < most_deep → behind_line network line r (Repeat k) ≡ Ok (record { steps = r.steps; opens = r.opens ++ (record { line = line; start = length r.steps; again = k - 1 }) ∷ [] })
unfolding behind_line
repeat-line network line k r room = (let t : nat_lt (length r.opens) most_deep ≡ true = grind (arith, nat_tests) in rw t refl)

deep-line : (network : Neighbours) (line k : ℕ) (r : Reading) → most_deep ≤ length r.opens → behind_line network line r (Repeat k) ≡ Err (TooDeep line)
unfolding behind_line
deep-line network line k r deep = (let t : nat_lt (length r.opens) most_deep ≡ false = grind (arith, nat_tests) in rw t refl)

-- behind a line there are few steps, where there were before
few-behind : (network : Neighbours) (line : ℕ) (r q : Reading) (said : Line) → length r.steps ≤ most_steps → behind_line network line r said ≡ Ok q → length q.steps ≤ most_steps
unfolding behind_line
few-behind network line r q (Act action) few h =
    let x = then-ok (few_steps line (r.steps ++ made_by network action)) (λ steps. Ok (record { steps = steps; opens = r.opens })) q h in
    let f = few-ok line (r.steps ++ made_by network action) x.0 x.1 in
    let p : Reading = record { steps = x.0; opens = r.opens } in
    let same : p ≡ q = cc in
    subst (λ (q : Reading). length q.steps ≤ most_steps) same (subst (λ (xs : List Step). length xs ≤ most_steps) f.0 f.1)
few-behind network line r q (Repeat k) few h =
    elim (choice (nat_lt (length r.opens) most_deep) _ _ _ h) [
      | inl a ↦ subst (λ (x : Result Reading StepTextFault). few_in x) a.1 few
      | inr b ↦ (let e = b.1 in cc)
    ] where
      few_in : Result Reading StepTextFault → Type 0
      few_in (Ok q) = length q.steps ≤ most_steps
      few_in (Err e) = Unit {0}
few-behind network line r q End few h = few-ended (last_open r.opens) h where
  few-ended : (last : Option OpenRepeat) → ended line r last ≡ Ok q → length q.steps ≤ most_steps
  few-ended None g = cc
  few-ended (Some last) g =
      let x = then-ok (few_steps line (repeated r.steps last)) (λ steps. Ok (record { steps = steps; opens = but_last r.opens })) q g in
      let f = few-ok line (repeated r.steps last) x.0 x.1 in
      let p : Reading = record { steps = x.0; opens = but_last r.opens } in
      let same : p ≡ q = cc in
      subst (λ (q : Reading). length q.steps ≤ most_steps) same (subst (λ (xs : List Step). length xs ≤ most_steps) f.0 f.1)

module _ {B : Type 0} (network : Neighbours) (line : ℕ) (r : Reading) (said : Line) where
  pub answer-act : (result : Result B StepTextFault) (action : Action) (ss : List Step) → said ≡ Act action → IsAnswer (λ (x : B). ss) (few_steps line (r.steps ++ made_by network action)) result
      → IsAnswer (λ (x : B). record { steps = ss; opens = r.opens }) (behind_line network line r said) result
  unfolding behind_line
  answer-act result action ss is h =
      let q : Reading = record { steps = ss; opens = r.opens } in
      answer-same (λ (x : B). q) (behind_line network line r (Act action)) (behind_line network line r said) result (ap (λ s. behind_line network line r s) (sym is))
      (answer-then ss (λ steps. Ok (record { steps = steps; opens = r.opens })) q (few_steps line (r.steps ++ made_by network action)) result refl h)

  pub answer-repeat : (result : Result B StepTextFault) (k start : ℕ) (opens : List OpenRepeat) → said ≡ Repeat k → start ≡ length r.steps → OnOk result (length r.opens < most_deep)
      → OnOk result (opens ≡ r.opens ++ (record { line = line; start = start; again = k - 1 }) ∷ []) → IfErr result (λ fault. fault ≢ Memory → (fault ≡ TooDeep line) × (most_deep ≤ length r.opens))
      → IsAnswer (λ (x : B). record { steps = r.steps; opens = opens }) (behind_line network line r said) result
  answer-repeat (Ok x) k start opens is begun room opened refused =
      let new : OpenRepeat = record { line = line; start = start; again = k - 1 } in
      let same : r.opens ++ (record { line = line; start = length r.steps; again = k - 1 }) ∷ [] ≡ opens = ap (λ n. r.opens ++ (record { line = line; start = n; again = k - 1 }) ∷ []) (sym begun) ∙ sym opened in
      ap (λ s. behind_line network line r s) is ∙ repeat-line network line k r room ∙ ap (λ os. Ok (record { steps = r.steps; opens = os })) same
  answer-repeat (Err e) k start opens is begun room opened refused =
      λ never. (let why = refused never in ap (λ s. behind_line network line r s) is ∙ deep-line network line k r why.1 ∙ ap Err (sym why.0))

  pub answer-end : (result : Result B StepTextFault) (q : Reading) → said ≡ End → IsAnswer (λ (x : B). q) (ended line r (last_open r.opens)) result → IsAnswer (λ (x : B). q) (behind_line network line r said) result
  unfolding behind_line
  answer-end result q is h = answer-same (λ (x : B). q) (behind_line network line r End) (behind_line network line r said) result (ap (λ s. behind_line network line r s) (sym is)) h

  pub answer-few : (result : Result B StepTextFault) (q : Reading) → length r.steps ≤ most_steps → IsAnswer (λ (x : B). q) (behind_line network line r said) result → OnOk result (length q.steps ≤ most_steps)
  answer-few (Ok x) q few h = few-behind network line r q said few h
  answer-few (Err e) q few h = tt
