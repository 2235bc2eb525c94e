use Rattle.std.proofs.Common.{◌≡◌, ◌≤◌, ◌<◌, ◌^◌, ◌++◌, ◌∷◌, All, ℕ, List, length, map}
use Rattle.rule_check.specs.WellFormed.{IsFieldName}
use Rattle.report_text.specs.Report.{fields_text}
use Rattle.report_files.specs.tables.Tables.{AreFields}
use Rattle.report_files.proofs.tables.FirstNames.{Left}
use Rattle.report_files.proofs.tables.first_line.read_names.Given as goal

abbrev pub invariant-loop-place : goal.invariant-loop-place
invariant-loop-place l = record {
  count : length l.names.items ≡ l.place;
  fields : All IsFieldName (map (λ f. f.now) l.names.items);
  left : (names : List (List ℕ)) (words more : List ℕ) → AreFields names → length names ≤ length words → All (λ w. w < 2 ^ 32) words → l.bytes ≡ fields_text names words ++ (10 ∷ more) → Left names more (map (λ f. f.now) l.names.items) l.rest;
}
