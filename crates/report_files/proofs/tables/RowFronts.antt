-- A row that is read part by part.
use Rattle.std.proofs.Common.{◌≡◌, ◌≢◌, ℕ, ◌<◌, ◌^◌, Bool, true, false, List, [], ◌∷◌, ◌++◌, sym, ap, ◌∙◌, append_assoc, Option, Some, None, codes}
use Rattle.std.specs.Fmt.{decimal}
use Rattle.std.specs.Option.{option_map}
use Rattle.std.proofs.lemmas.List.{append_cancel_left}
use Rattle.rule_check.specs.declared.state.State.{State}
use Rattle.report_text.specs.Front.{IsFront, Ends, Anything}
use Rattle.report_text.specs.Report.{fields_text}
use Rattle.report_text.specs.ReadReport.{IsStateOf}
use Rattle.report_text.proofs.Digits.{number_once}
use Rattle.report_text.proofs.ReadFields.{Small}
use Rattle.report_files.specs.tables.Tables.{row_text, row_line, IsRow}
use Rattle.report_files.proofs.tables.RowLines.{ending, ends_ending, row_plain, row_moved, row_ends}

-- the fields and the end of their line
abbrev pub ended : List (List ℕ) → State → List ℕ
ended names s = fields_text names s.words ++ 10 ∷ []

module _ (names : List (List ℕ)) (fields : ℕ) (bytes : List ℕ) where
  -- without moves
  pub plain_front : (found : Option (State × List ℕ)) → IsFront (ended names) (IsStateOf fields) Anything bytes found → IsFront (row_text names) (IsRow fields false) Anything bytes (option_map (λ x. (record { moves = None; state = x.0 }, x.1)) found)
  plain_front (Some f) h = (h.0, record { moves = tt; state = h.1 }, tt)
  plain_front None h = λ row behind fits any e. h row.state behind fits.state tt (e ∙ row_plain names fields row behind fits ∙ sym (append_assoc (fields_text names row.state.words) (10 ∷ []) behind))

  -- without ` moves ` there are none
  pub moves_none : ((rest : List ℕ) → bytes ≢ codes " moves " ++ rest) → IsFront (row_text names) (IsRow fields true) Anything bytes None
  moves_none none = λ row behind fits any e. let m = row_moved names fields row behind fits in none _ (e ∙ m.text)

  module _ (number : List ℕ) (is : bytes ≡ codes " moves " ++ number) where
    pub moves_no_number : IsFront decimal Small Ends number None → IsFront (row_text names) (IsRow fields true) Anything bytes None
    moves_no_number h = λ row behind fits any e.
        let m = row_moved names fields row behind fits in
        h m.count (ending names row.state.words behind) m.small (ends_ending names row.state.words behind) (append_cancel_left (codes " moves ") number _ (sym is ∙ e ∙ m.text))

    pub moved_front : (moves : ℕ) (values : List ℕ) → number ≡ decimal moves ++ values → Small moves → Ends values → (found : Option (State × List ℕ)) → IsFront (ended names) (IsStateOf fields) Anything values found
        → IsFront (row_text names) (IsRow fields true) Anything bytes (option_map (λ x. (record { moves = Some moves; state = x.0 }, x.1)) found)
    moved_front moves values cut small ends (Some f) h =
        (is ∙ ap (λ t. codes " moves " ++ t) (cut ∙ ap (λ t. decimal moves ++ t) h.0) ∙ sym (append_assoc (codes " moves ") (decimal moves) (ended names f.0 ++ f.1)) ∙ sym (append_assoc (codes " moves " ++ decimal moves) (ended names f.0) f.1), record { moves = small; state = h.1 }, tt)
    moved_front moves values cut small ends None h = λ row behind fits any e.
        let m = row_moved names fields row behind fits in
        let numbers = append_cancel_left (codes " moves ") number (decimal m.count ++ ending names row.state.words behind) (sym is ∙ e ∙ m.text) in
        let once = number_once moves m.count values (ending names row.state.words behind) small m.small ends (ends_ending names row.state.words behind) (sym cut ∙ numbers) in
        h row.state behind fits.state tt (once.1 ∙ sym (append_assoc (fields_text names row.state.words) (10 ∷ []) behind))

module _ (names : List (List ℕ)) (fields node : ℕ) (counted : Bool) (bytes : List ℕ) (tiny : node < 2 ^ 32) where
  -- without a number there is no node's line
  pub no_number_no_row : IsFront decimal Small Ends bytes None → IsFront (row_line names node) (IsRow fields counted) Anything bytes None
  no_number_no_row h = λ row behind fits any e. h node (row_text names row ++ behind) tiny (row_ends names fields row behind counted fits) (e ∙ append_assoc (decimal node) (row_text names row) behind)

  -- a line with another number is not this node's
  pub other_row : (n : ℕ) (rest : List ℕ) → bytes ≡ decimal n ++ rest → n < 2 ^ 32 → Ends rest → n ≢ node → IsFront (row_line names node) (IsRow fields counted) Anything bytes None
  other_row n rest is small ends other = λ row behind fits any e.
      other (number_once n node rest (row_text names row ++ behind) small tiny ends (row_ends names fields row behind counted fits) (sym is ∙ e ∙ append_assoc (decimal node) (row_text names row) behind)).0
