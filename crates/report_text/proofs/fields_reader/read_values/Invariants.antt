use Rattle.std.proofs.Common.{◌≡◌, ◌≤◌, ◌<◌, ◌^◌, ◌++◌, All, ℕ, List, length, take, drop, map, slice_index}
use Rattle.rule_check.specs.declared.state.State.{State}
use Rattle.report_text.specs.Front.{Ends}
use Rattle.report_text.specs.Report.{fields_text}
use Rattle.report_text.specs.ReadReport.{IsStateOf}
use Rattle.report_text.proofs.fields_reader.read_values.Given as goal

abbrev pub invariant-loop-place : goal.invariant-loop-place
invariant-loop-place l = record {
  count : length l.words ≡ 8;
  small : All (λ w. w < 2 ^ 32) l.words;
  done : l.bytes ≡ fields_text (take l.place (map (λ f. f.now) l.fields)) l.words ++ l.rest;
  plain : (k : ℕ) → l.place ≤ k → slice_index l.words k ≡ 0;
  ends : Ends l.rest;
  left : (s : State) (behind : List ℕ) → IsStateOf (length l.fields) s → Ends behind → l.bytes ≡ fields_text (map (λ f. f.now) l.fields) s.words ++ behind → l.rest ≡ fields_text (drop l.place (map (λ f. f.now) l.fields)) (drop l.place s.words) ++ behind;
}
