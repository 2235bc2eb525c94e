-- What is found of a trace: from the world before any step to the verdict.
use Rattle.std.proofs.Common.{◌≡◌, ◌≢◌, ℕ, List, [], nat_lt, false, Option, Result, Ok, Err, IfErr, append-nil, refl, sym, ◌∙◌, subst, arith}
use Rattle.std.proofs.lemmas.Bool.Decides.{nat_tests}
use Rattle.import_lines.specs.Texts.{told_from}
use Rattle.rounds_plan.specs.Configs.{most_rounds}
use Rattle.rounds_plan.specs.Plans.{PlanView}
use Rattle.rounds_plan.specs.Starts.{IsSimplePlan}
use Rattle.unison_world.specs.Counting.{Counts}
use Rattle.unison_world.specs.Opening.{opening_of}
use Rattle.unison_world.specs.View.{opened}
use Rattle.run_steps.specs.declared.verify.entry.Entry.{Entry}
use Rattle.run_steps.specs.declared.verify.verified.Verified.{Verified}
use Rattle.run_steps.specs.declared.verify.fault.VerifyFault.{VerifyFault}
use Rattle.run_steps.specs.declared.verify.fault.VerifyFault.TheVariants.{Memory}
use Rattle.run_steps.specs.verify.Walks.{Runs, Walked, IsWalked, IsStopped}
use Rattle.run_steps.proofs.verify.Refusing.{none-bad}

-- no plan starts behind the last round, so its world opens
pub opens : (plan : PlanView) → IsSimplePlan plan → opening_of plan most_rounds ≡ Ok (opened plan most_rounds)
opens plan is =
    let start = is.start in
    let a : nat_lt most_rounds most_rounds ≡ false = grind (arith, nat_tests) in
    let b : nat_lt most_rounds plan.start ≡ false = grind (arith, nat_tests) in
    rw (a, b) refl

module _ (plan : PlanView) (names : Option (List (List ℕ))) (text : List ℕ) where
  -- all lines are walked through
  pub all-found : (c : Counts) (found : Verified) → Walked plan names (told_from 1 text) [] c found.lines found.valued → found.counts.items ≡ c.moves → IsWalked plan names text found
  all-found c found w moves =
      let same : told_from 1 text ≡ w.earlier = w.all ∙ append-nil w.earlier in
      record { entries = w.entries; counts = c; runs = subst (λ told. Runs plan names told w.entries c) (sym same) w.holds; lines = w.lines; valued = w.valued; moves = moves }

  memory-only : (fault : VerifyFault) → ((fault ≢ Memory) → ⊥) → fault ≡ Memory
  memory-only Memory h = refl
  memory-only fault h = absurd (h (λ e. cc))

  -- a text that holds is refused only where memory runs out
  pub accepted : (r : Result Verified VerifyFault) (entries : List Entry) (counts : Counts) → IfErr r (IsStopped plan names text) → Runs plan names (told_from 1 text) entries counts → IfErr r (λ fault. fault ≡ Memory)
  accepted (Ok x) entries counts h holds = tt
  accepted (Err fault) entries counts h holds = memory-only fault (λ never. none-bad plan names (told_from 1 text) entries counts fault holds (h never))
