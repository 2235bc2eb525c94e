-- Lines that hold: none, and one more.
use Rattle.std.proofs.Common.{◌≡◌, ℕ, ◌+◌, ◌≤◌, true, not, cond, List, [], ◌∷◌, ◌++◌, length, length-append, map, refl, sym, ap, ◌∙◌, subst, append_assoc, Option, Ok, arith}
use Rattle.std.specs.List.{count_by, sum_by, slice_split, enumerate_from}
use Rattle.std.proofs.lemmas.List.{map_push}
use Rattle.std.proofs.lemmas.List.FromFn.{length-enumerate_from}
use Rattle.std.proofs.lemmas.List.Splits.{length-slice_split}
use Rattle.std.proofs.lemmas.List.Elements.{All-nil}
use Rattle.std.proofs.lemmas.List.Sums.{sum_by-cons, sum_by-append, length-filter, count_by-le-length}
use Rattle.import_lines.specs.Texts.{told_from, is_line_feed, say_nothing, words_of}
use Rattle.rounds_plan.specs.Configs.{most_rounds}
use Rattle.rounds_plan.specs.Plans.{PlanView}
use Rattle.unison_world.specs.Counting.{Counts, at_start, answer_of, after, run}
use Rattle.unison_world.specs.View.{WorldView, answer_in, world_after, opened}
use Rattle.unison_trace.specs.Histories.{LeadTo, is_change}
use Rattle.unison_trace.proofs.Leading.{lead-more}
use Rattle.run_steps.specs.declared.verify.entry.Entry.{Entry}
use Rattle.run_steps.specs.declared.verify.fault.VerifyFault.{VerifyFault}
use Rattle.run_steps.specs.verify.Meaning.{entry_at}
use Rattle.run_steps.specs.verify.Shown.{shown_state, Agrees, AllAgree}
use Rattle.run_steps.specs.verify.Traces.{has_value}
use Rattle.run_steps.specs.verify.Walks.{Runs, Walked, Stops, IsStop}

-- with one entry more
counted : (entries : List Entry) (e : Entry) → count_by has_value (entries ++ e ∷ []) ≡ count_by has_value entries + cond (has_value e) 1 0
counted entries e =
    let one = λ (x : Entry). cond (has_value x) 1 0 in
    let last : sum_by one (e ∷ []) ≡ one e + sum_by one [] = sum_by-cons one e [] in
    let none : sum_by one [] ≡ 0 = refl in
    let both = sum_by-append one entries (e ∷ []) in
    both ∙ ap (λ n. sum_by one entries + n) (last ∙ omega (arith, none))

-- a text has no more lines that say something than it has bytes, and one
pub told-few : (n : ℕ) (bytes : List ℕ) → length (told_from n bytes) ≤ length bytes + 1
told-few n bytes =
    let lines = slice_split is_line_feed bytes in
    let says = λ (l : ℕ × List ℕ). not (say_nothing (words_of l.1)) in
    let a = length-filter says (enumerate_from n lines) in
    let b = count_by-le-length says (enumerate_from n lines) in
    let d = length-enumerate_from n lines in
    let e = length-slice_split is_line_feed bytes in
    let f = count_by-le-length is_line_feed bytes in
    omega arith

module _ (plan : PlanView) where
  agree-more : (c : Counts) (entries : List Entry) (e : Entry) → AllAgree plan c entries → Agrees e.given (shown_state plan (run plan.network most_rounds c (map (λ x. x.step) entries)) e.step) → AllAgree plan c (entries ++ e ∷ [])
  agree-more c [] e h agrees = (agrees, tt)
  agree-more c (x ∷ xs) e h agrees = (h.0, agree-more (after plan.network most_rounds c x.step) xs e h.1 agrees)

  module _ (names : Option (List (List ℕ))) where
    holds-none : Runs plan names [] [] (at_start plan.network plan.start)
    holds-none = record { read = refl; run = record { arrive = refl; each_changes = All-nil (λ a. is_change a ≡ true) }; agree = tt }

    holds-more : (earlier : List (ℕ × List ℕ)) (entries : List Entry) (c : Counts) (l : ℕ × List ℕ) (e : Entry) → Runs plan names earlier entries c → entry_at plan names l ≡ Ok e
        → is_change (answer_of plan.network most_rounds c e.step) ≡ true → Agrees e.given (shown_state plan c e.step)
        → Runs plan names (earlier ++ l ∷ []) (entries ++ e ∷ []) (after plan.network most_rounds c e.step)
    holds-more earlier entries c l e h is changes agrees =
        let step = λ (x : Entry). x.step in
        record {
          read = map_push (entry_at plan names) earlier l ∙ ap (λ xs. xs ++ entry_at plan names l ∷ []) h.read ∙ ap (λ x. map Ok entries ++ x ∷ []) is ∙ sym (map_push Ok entries e);
          run = subst (λ ss. LeadTo plan most_rounds (after plan.network most_rounds c e.step) ss) (sym (map_push step entries e)) (lead-more plan most_rounds c (map step entries) e.step h.run changes);
          agree = agree-more (at_start plan.network plan.start) entries e h.agree (subst (λ x. Agrees e.given (shown_state plan x e.step)) (sym h.run.arrive) agrees);
        }

    pub walked-none : (told : List (ℕ × List ℕ)) → Walked plan names told told (at_start plan.network plan.start) 0 0
    walked-none told = record { earlier = []; entries = []; all = refl; holds = holds-none; lines = refl; valued = refl }

    pub walked-more : (told todo : List (ℕ × List ℕ)) (l : ℕ × List ℕ) (e : Entry) (c : Counts) (lines valued : ℕ) → Walked plan names told (l ∷ todo) c lines valued → entry_at plan names l ≡ Ok e
        → is_change (answer_of plan.network most_rounds c e.step) ≡ true → Agrees e.given (shown_state plan c e.step)
        → Walked plan names told todo (after plan.network most_rounds c e.step) (lines + 1) (valued + cond (has_value e) 1 0)
    walked-more told todo l e c lines valued w is changes agrees =
        let count = w.lines in
        let one = length-append w.entries (e ∷ []) in
        record {
          earlier = w.earlier ++ l ∷ [];
          entries = w.entries ++ e ∷ [];
          all = w.all ∙ sym (append_assoc w.earlier (l ∷ []) todo);
          holds = holds-more w.earlier w.entries c l e w.holds is changes agrees;
          lines = omega arith;
          valued = ap (λ n. n + cond (has_value e) 1 0) w.valued ∙ sym (counted w.entries e);
        }

    pub bad-line : (told todo : List (ℕ × List ℕ)) (l : ℕ × List ℕ) (c : Counts) (lines valued : ℕ) (fault : VerifyFault) → Walked plan names told (l ∷ todo) c lines valued → Stops plan names c l fault → IsStop plan names told fault
    bad-line told todo l c lines valued fault w why =
        record { earlier = w.earlier; here = l; later = todo; all = w.all; entries = w.entries; counts = c; holds = w.holds; why = why }

    -- a line more, by the worlds before and after its step
    pub walked-step : (told here todo : List (ℕ × List ℕ)) (l : ℕ × List ℕ) (e : Entry) (w x : WorldView) (p : PlanView) (said valued more : ℕ)
        → w.plan ≡ plan → w.stop ≡ most_rounds → p ≡ w.plan → here ≡ l ∷ todo → Walked plan names told here w.counts said valued → entry_at p names l ≡ Ok e
        → is_change (answer_in w e.step) ≡ true → Agrees e.given (shown_state w.plan w.counts e.step) → x ≡ world_after w e.step → more ≡ cond (has_value e) 1 0
        → (x.plan ≡ plan) × (x.stop ≡ most_rounds) × Walked plan names told todo x.counts (said + 1) (valued + more)
    walked-step told here todo l e w x p said valued more a b own front walked is changes agrees made some =
        let c = w.counts in
        let same : after w.plan.network w.stop c e.step ≡ after plan.network most_rounds c e.step = ap (λ (q : PlanView). after q.network w.stop c e.step) a ∙ ap (λ t. after plan.network t c e.step) b in
        let answer : answer_in w e.step ≡ answer_of plan.network most_rounds c e.step = ap (λ (q : PlanView). answer_of q.network w.stop c e.step) a ∙ ap (λ t. answer_of plan.network t c e.step) b in
        let first : Walked plan names told (l ∷ todo) c said valued = subst (λ lines. Walked plan names told lines c said valued) front walked in
        let says : entry_at plan names l ≡ Ok e = ap (λ q. entry_at q names l) (sym (own ∙ a)) ∙ is in
        let taken : is_change (answer_of plan.network most_rounds c e.step) ≡ true = ap is_change (sym answer) ∙ changes in
        let held : Agrees e.given (shown_state plan c e.step) = subst (λ q. Agrees e.given (shown_state q c e.step)) a agrees in
        let next = walked-more told todo l e c said valued first says taken held in
        let counts : after plan.network most_rounds c e.step ≡ x.counts = sym (ap (λ (y : WorldView). y.counts) made ∙ same) in (
          ap (λ (y : WorldView). y.plan) made ∙ a,
          ap (λ (y : WorldView). y.stop) made ∙ b,
          subst (λ k. Walked plan names told todo x.counts (said + 1) (valued + k)) (sym some) (subst (λ k. Walked plan names told todo k (said + 1) (valued + cond (has_value e) 1 0)) counts next),
        )

    -- before the first line
    pub walked-begin : (w : WorldView) (text bytes : List ℕ) (passed : ℕ) → w.plan ≡ plan → w ≡ opened w.plan most_rounds → passed ≡ 0 → bytes ≡ text
        → Walked plan names (told_from 1 text) (told_from (passed + 1) bytes) w.counts 0 0
    walked-begin w text bytes passed a is none same =
        let counts : at_start plan.network plan.start ≡ w.counts = sym (ap (λ (y : WorldView). y.counts) is ∙ ap (λ (q : PlanView). at_start q.network q.start) a) in
        let todo : told_from 1 text ≡ told_from (passed + 1) bytes = sym (ap (λ n. told_from (n + 1) bytes) none ∙ ap (told_from 1) same) in
        subst (λ c. Walked plan names (told_from 1 text) (told_from (passed + 1) bytes) c 0 0) counts (subst (λ lines. Walked plan names (told_from 1 text) lines (at_start plan.network plan.start) 0 0) todo (walked-none (told_from 1 text)))
