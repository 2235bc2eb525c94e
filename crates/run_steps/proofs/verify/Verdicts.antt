-- Walks through a trace tell whether it holds.
use Rattle.std.proofs.Common.{◌≡◌, ℕ, ◌≤◌, List, length, Option, None, Result, Ok, Err, IfOk, IfErr, inl, inr, arith}
use Rattle.std.proofs.lemmas.List.{length-map}
use Rattle.import_lines.specs.Texts.{told_from}
use Rattle.rule_check.specs.Value.{names_of}
use Rattle.rule_check.specs.WellFormed.{first_fault}
use Rattle.rounds_plan.specs.Plans.{PlanView}
use Rattle.rounds_plan.specs.Starts.{IsSimplePlan}
use Rattle.unison_world.specs.Counting.{Counts}
use Rattle.run_steps.specs.declared.verify.entry.Entry.{Entry}
use Rattle.run_steps.specs.declared.verify.verified.Verified.{Verified}
use Rattle.run_steps.specs.declared.verify.fault.VerifyFault.{VerifyFault}
use Rattle.run_steps.specs.declared.verify.fault.VerifyFault.TheVariants.{Memory}
use Rattle.run_steps.specs.verify.Traces.{Holds, HoldsAs, IsFound, IsFirstBadLine, IsRefused}
use Rattle.run_steps.specs.verify.Walks.{Runs, IsWalked, IsStop, IsStopped}
use Rattle.run_steps.proofs.verify.Distinct.{fields-distinct}
use Rattle.run_steps.proofs.verify.Finding.{accepted}
use Rattle.run_steps.proofs.verify.Keys.{AreDistinct}
use Rattle.run_steps.proofs.verify.Tellings.{line-said, line-unsaid, all-said, all-read}

module _ (plan : PlanView) (names : Option (List (List ℕ))) (is : IsSimplePlan plan) (sound : first_fault plan.program ≡ None) where
  few : length (names_of plan.program) ≤ 8
  few = (let many = length-map plan.program.fields (λ f. f.name) in let low = is.fields in omega arith)

  distinct : AreDistinct (names_of plan.program)
  distinct = fields-distinct plan.program sound

  holds : (told : List (ℕ × List ℕ)) (entries : List Entry) (counts : Counts) → Runs plan names told entries counts → Holds plan names told entries counts
  holds told entries counts h = record { said = all-said plan names few distinct told entries h.read; run = h.run; agree = h.agree }

  runs : (told : List (ℕ × List ℕ)) (entries : List Entry) (counts : Counts) → Holds plan names told entries counts → Runs plan names told entries counts
  runs told entries counts h = record { read = all-read plan names few distinct is.network told entries h.said; run = h.run; agree = h.agree }

  stop-bad : (told : List (ℕ × List ℕ)) (fault : VerifyFault) → IsStop plan names told fault → IsFirstBadLine plan names told fault
  stop-bad told fault h =
      record {
        earlier = h.earlier;
        here = h.here;
        later = h.later;
        all = h.all;
        entries = h.entries;
        counts = h.counts;
        holds = holds h.earlier h.entries h.counts h.holds;
        why = elim h.why [
          | inl stops ↦ inl (line-unsaid plan names few distinct is.network h.here fault stops)
          | inr x ↦ inr (x.0, line-said plan names few distinct h.here x.0 x.1, x.2)
        ];
      }

  module _ (text : List ℕ) where
    -- what a walk finds is found
    pub walked-found : (r : Result Verified VerifyFault) → IfOk r (IsWalked plan names text) → IfOk r (IsFound plan names text)
    walked-found (Ok x) h = record { entries = h.entries; counts = h.counts; holds = holds (told_from 1 text) h.entries h.counts h.runs; lines = h.lines; valued = h.valued; moves = h.moves }
    walked-found (Err e) h = tt

    -- a walk that stops does so at the first bad line
    pub stopped-refused : (r : Result Verified VerifyFault) → IfErr r (IsStopped plan names text) → IfErr r (IsRefused plan names text)
    stopped-refused (Ok x) h = tt
    stopped-refused (Err e) h = λ never. stop-bad (told_from 1 text) e (h never)

    -- and it does not stop where the text holds
    pub holds-accepted : (r : Result Verified VerifyFault) (entries : List Entry) (counts : Counts) → IfErr r (IsStopped plan names text) → HoldsAs plan names text entries counts → IfErr r (λ fault. fault ≡ Memory)
    holds-accepted r entries counts h all = accepted plan names text r entries counts h (runs (told_from 1 text) entries counts all)
