-- The number in front of a node's line.
use Rattle.std.proofs.Common.{◌≡◌, ◌≢◌, ℕ, ◌<◌, ◌≤◌, ◌^◌, List, ◌∷◌, ◌++◌, length, sym, ◌∙◌, None, refl}
use Rattle.std.specs.Fmt.{decimal}
use Rattle.rule_check.specs.declared.state.State.{State}
use Rattle.report_text.specs.Front.{IsFront, Ends, Anything}
use Rattle.report_text.specs.Report.{fields_text, node_line}
use Rattle.report_text.specs.ReadReport.{IsStateOf}
use Rattle.report_text.proofs.Digits.{number_once}
use Rattle.report_text.proofs.Fronts.{Once}
use Rattle.report_text.proofs.Once.{ends_fields, line_apart, fields_once}

abbrev Small : ℕ → Type 0
Small n = n < 2 ^ 32

module _ (names : List (List ℕ)) (fields node : ℕ) (bytes : List ℕ) (tiny : node < 2 ^ 32) where
  -- without a number there is no node's line
  pub no_number_no_line : IsFront decimal Small Ends bytes None → IsFront (node_line names node) (IsStateOf fields) Anything bytes None
  no_number_no_line h = λ s behind fits any e. h node (fields_text names s.words ++ (10 ∷ behind)) tiny (ends_fields names s.words (10 ∷ behind) refl) (e ∙ line_apart names node s behind)

  -- a line with another number is not this node's
  pub other_number : (n : ℕ) (rest : List ℕ) → bytes ≡ decimal n ++ rest → n < 2 ^ 32 → Ends rest → n ≢ node → IsFront (node_line names node) (IsStateOf fields) Anything bytes None
  other_number n rest is small ends other = λ s behind fits any e.
      other (number_once n node rest (fields_text names s.words ++ (10 ∷ behind)) small tiny ends (ends_fields names s.words (10 ∷ behind) refl) (sym is ∙ e ∙ line_apart names node s behind)).0

-- the fields of a node's line give its state
pub states_once : (names : List (List ℕ)) (fields : ℕ) → length names ≡ fields → fields ≤ 8 → Once (λ (s : State). fields_text names s.words) (IsStateOf fields)
states_once names fields count few s t rest more fits suits ends stops same = fields_once names fields s t rest more count few fits suits ends stops same
