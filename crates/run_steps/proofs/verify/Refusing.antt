-- A text that holds has no bad line.
use Rattle.std.proofs.Common.{◌≡◌, ℕ, true, List, [], ◌∷◌, ◌++◌, map, refl, sym, ap, ◌∙◌, subst, Option, Result, Ok, inl, inr}
use Rattle.std.specs.List.{All}
use Rattle.std.proofs.lemmas.List.Elements.{All-head, All-tail}
use Rattle.rounds_plan.specs.Configs.{most_rounds}
use Rattle.rounds_plan.specs.Plans.{PlanView}
use Rattle.unison_world.specs.Counting.{Counts, at_start, answer_of, answers, after, run}
use Rattle.unison_trace.specs.Histories.{is_change}
use Rattle.run_steps.specs.declared.verify.entry.Entry.{Entry}
use Rattle.run_steps.specs.declared.verify.fault.VerifyFault.{VerifyFault}
use Rattle.run_steps.specs.declared.verify.fault.VerifyFault.TheVariants.{Stopped, Already, Behind, NotReady, Differs}
use Rattle.run_steps.specs.verify.Meaning.{entry_at}
use Rattle.run_steps.specs.verify.Shown.{shown_state, Agrees, AllAgree}
use Rattle.run_steps.specs.verify.Traces.{IsUnheld}
use Rattle.run_steps.specs.verify.Walks.{Runs, IsStop}

-- a line in the midst says one of the entries
record Split (plan : PlanView) (names : Option (List (List ℕ))) (earlier : List (ℕ × List ℕ)) (here : ℕ × List ℕ) (entries : List Entry) : Type 0 where
  before : List Entry
  entry : Entry
  behind : List Entry
  all : entries ≡ before ++ entry ∷ behind
  said : map (entry_at plan names) earlier ≡ map Ok before
  says : entry_at plan names here ≡ Ok entry

abbrev in_ok : Entry → Result Entry VerifyFault
in_ok e = Ok e

same-entries : (xs ys : List Entry) → map in_ok xs ≡ map in_ok ys → xs ≡ ys
same-entries [] [] h = refl
same-entries [] (y ∷ ys) h = absurd (cc)
same-entries (x ∷ xs) [] h = absurd (cc)
same-entries (x ∷ xs) (y ∷ ys) h =
    let first : x ≡ y = cc in
    let rest : map in_ok xs ≡ map in_ok ys = cc in
    let more = same-entries xs ys rest in
    cc

module _ (plan : PlanView) where
  module _ (names : Option (List (List ℕ))) (here : ℕ × List ℕ) (later : List (ℕ × List ℕ)) where
    split : (earlier : List (ℕ × List ℕ)) (entries : List Entry) → map (entry_at plan names) (earlier ++ here ∷ later) ≡ map Ok entries → Split plan names earlier here entries
    split [] [] h = absurd (cc)
    split [] (e ∷ entries) h = record { before = []; entry = e; behind = entries; all = refl; said = refl; says = cc }
    split (l ∷ ls) [] h = absurd (cc)
    split (l ∷ ls) (e ∷ entries) h =
        let first : entry_at plan names l ≡ Ok e = cc in
        let rest : map (entry_at plan names) (ls ++ here ∷ later) ≡ map Ok entries = cc in
        let s = split ls entries rest in
        let all = s.all in
        let said = s.said in
        record { before = e ∷ s.before; entry = s.entry; behind = s.behind; all = cc; said = cc; says = s.says }

  -- an entry in the midst of a run that holds
  in-midst : (c : Counts) (before behind : List Entry) (e : Entry) → All (λ a. is_change a ≡ true) (answers plan.network most_rounds c (map (λ x. x.step) (before ++ e ∷ behind))) → AllAgree plan c (before ++ e ∷ behind)
      → (is_change (answer_of plan.network most_rounds (run plan.network most_rounds c (map (λ x. x.step) before)) e.step) ≡ true) × Agrees e.given (shown_state plan (run plan.network most_rounds c (map (λ x. x.step) before)) e.step)
  in-midst c [] behind e each agree = (All-head (λ a. is_change a ≡ true) _ _ each, agree.0)
  in-midst c (x ∷ before) behind e each agree = in-midst (after plan.network most_rounds c x.step) before behind e (All-tail (λ a. is_change a ≡ true) _ _ each) agree.1

  not-unheld : (c : Counts) (here : ℕ) (e : Entry) (fault : VerifyFault) → is_change (answer_of plan.network most_rounds c e.step) ≡ true → Agrees e.given (shown_state plan c e.step) → IsUnheld plan c here e fault → ⊥
  not-unheld c here e (Differs line by u count t field given due) changes agrees h = (let d = h.5 in d.other (agrees field given d.place d.is_given))
  not-unheld c here e (Stopped line u) changes agrees h = (let answer = h.2 in cc)
  not-unheld c here e (Already line u v) changes agrees h = (let answer = h.3 in cc)
  not-unheld c here e (Behind line u v own other) changes agrees h = (let answer = h.5 in cc)
  not-unheld c here e (NotReady line u v) changes agrees h = (let answer = h.3 in cc)
  not-unheld c here e fault changes agrees h = h

  pub none-bad : (names : Option (List (List ℕ))) (told : List (ℕ × List ℕ)) (entries : List Entry) (counts : Counts) (fault : VerifyFault) → Runs plan names told entries counts → IsStop plan names told fault → ⊥
  none-bad names told entries counts fault h bad =
      let s = split names bad.here bad.later bad.earlier entries (ap (map (entry_at plan names)) (sym bad.all) ∙ h.read) in
      let same : bad.entries ≡ s.before = same-entries bad.entries s.before (sym bad.holds.read ∙ s.said) in
      let first = at_start plan.network plan.start in
      let step = λ (x : Entry). x.step in
      let each = subst (λ es. All (λ a. is_change a ≡ true) (answers plan.network most_rounds first (map step es))) s.all h.run.each_changes in
      let agree = subst (AllAgree plan first) s.all h.agree in
      let midst = in-midst first s.before s.behind s.entry each agree in
      let here : run plan.network most_rounds first (map step s.before) ≡ bad.counts = ap (λ es. run plan.network most_rounds first (map step es)) (sym same) ∙ bad.holds.run.arrive in
      let changes = subst (λ c. is_change (answer_of plan.network most_rounds c s.entry.step) ≡ true) here midst.0 in
      let agrees = subst (λ c. Agrees s.entry.given (shown_state plan c s.entry.step)) here midst.1 in
      elim bad.why [
        | inl stops ↦ (let says = s.says in absurd (cc))
        | inr x ↦ (
            let says = s.says in
            let is = x.1 in
            let own : x.0 ≡ s.entry = cc in
            not-unheld bad.counts bad.here.0 s.entry fault changes agrees (subst (λ e. IsUnheld plan bad.counts bad.here.0 e fault) own x.2))
      ]
