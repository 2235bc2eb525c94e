-- The lines of rows: each is the spelling of one row at most.
use Rattle.std.proofs.Common.{◌≡◌, ℕ, suc, ◌+◌, ◌<◌, ◌≤◌, ◌^◌, Bool, true, false, List, [], ◌∷◌, ◌++◌, length, refl, sym, ap, subst, ◌∙◌, arith, append_assoc, length-append, All, Option, Some, None, codes}
use Rattle.std.specs.Fmt.{decimal}
use Rattle.std.proofs.lemmas.List.{append-nil, append_cancel_left}
use Rattle.rule_check.specs.declared.state.State.{State}
use Rattle.report_text.specs.Front.{Ends}
use Rattle.rounds_plan.specs.Configs.{blank}
use Rattle.report_text.specs.Report.{fields_text}
use Rattle.report_text.specs.ReadReport.{IsStateOf}
use Rattle.report_text.proofs.Digits.{number_once}
use Rattle.report_text.proofs.Once.{ends_fields, fields_once}
use Rattle.report_text.proofs.ReportOnce.{all_behind}
use Rattle.report_files.specs.declared.tables.row.Row.{Row}
use Rattle.report_files.specs.tables.Tables.{moves_text, row_text, row_line, row_lines, FitMoves, IsRow}

-- what stands after the moves, and then
abbrev pub ending : List (List ℕ) → List ℕ → List ℕ → List ℕ
ending names words more = fields_text names words ++ (10 ∷ more)

abbrev text_of : List (List ℕ) → Option ℕ → List ℕ → List ℕ
text_of names moves words = moves_text moves ++ (fields_text names words ++ 10 ∷ [])

plain_of : (names : List (List ℕ)) (words more : List ℕ) (moves : Option ℕ) → FitMoves false moves → text_of names moves words ++ more ≡ ending names words more
plain_of names words more None fit = append_assoc (fields_text names words) (10 ∷ []) more
plain_of names words more (Some count) fit = absurd fit

-- a row with moves
pub record Moved (names : List (List ℕ)) (words more : List ℕ) (moves : Option ℕ) : Type 0 where
  pub count : ℕ
  pub small : count < 2 ^ 32
  pub is : moves ≡ Some count
  pub text : text_of names moves words ++ more ≡ codes " moves " ++ (decimal count ++ ending names words more)

moved_of : (names : List (List ℕ)) (words more : List ℕ) (moves : Option ℕ) → FitMoves true moves → Moved names words more moves
moved_of names words more None fit = absurd fit
moved_of names words more (Some count) fit = record {
  count = count;
  small = fit;
  is = refl;
  text = append_assoc (codes " moves " ++ decimal count) (fields_text names words ++ 10 ∷ []) more
      ∙ append_assoc (codes " moves ") (decimal count) ((fields_text names words ++ 10 ∷ []) ++ more)
      ∙ ap (λ t. codes " moves " ++ (decimal count ++ t)) (append_assoc (fields_text names words) (10 ∷ []) more);
}

pub ends_ending : (names : List (List ℕ)) (words more : List ℕ) → Ends (ending names words more)
ends_ending names words more = ends_fields names words (10 ∷ more) refl

module _ (names : List (List ℕ)) (fields : ℕ) (row : Row) (more : List ℕ) where
  pub row_plain : IsRow fields false row → row_text names row ++ more ≡ ending names row.state.words more
  row_plain fits = plain_of names row.state.words more row.moves fits.moves

  pub row_moved : IsRow fields true row → Moved names row.state.words more row.moves
  row_moved fits = moved_of names row.state.words more row.moves fits.moves

  pub row_ends : (counted : Bool) → IsRow fields counted row → Ends (row_text names row ++ more)
  row_ends false fits = subst Ends (sym (row_plain fits)) (ends_ending names row.state.words more)
  row_ends true fits = subst Ends (sym (row_moved fits).text) refl

module _ (names : List (List ℕ)) (fields : ℕ) (count : length names ≡ fields) (few : fields ≤ 8) where
  endings_same : (s t : State) (rest more : List ℕ) → IsStateOf fields s → IsStateOf fields t → ending names s.words rest ≡ ending names t.words more → (s ≡ t) × (rest ≡ more)
  endings_same s t rest more fits suits same =
      let once = fields_once names fields s t (10 ∷ rest) (10 ∷ more) count few fits suits refl refl same in
      (once.0, append_cancel_left (10 ∷ []) rest more once.1)

  texts_same : (counted : Bool) (r s : Row) (rest more : List ℕ) → IsRow fields counted r → IsRow fields counted s → row_text names r ++ rest ≡ row_text names s ++ more → (r.moves ≡ s.moves) × (r.state ≡ s.state) × (rest ≡ more)
  texts_same false r s rest more fits suits same =
      let one = endings_same r.state s.state rest more fits.state suits.state (sym (row_plain names fields r rest fits) ∙ same ∙ row_plain names fields s more suits) in
      (none_same r.moves s.moves fits.moves suits.moves, one.0, one.1)
    where
      none_same : (m k : Option ℕ) → FitMoves false m → FitMoves false k → m ≡ k
      none_same None None fit suit = refl
      none_same None (Some k) fit suit = absurd suit
      none_same (Some m) k fit suit = absurd fit
  texts_same true r s rest more fits suits same =
      let first = row_moved names fields r rest fits in
      let second = row_moved names fields s more suits in
      let numbers = append_cancel_left (codes " moves ") _ _ (sym first.text ∙ same ∙ second.text) in
      let number = number_once first.count second.count (ending names r.state.words rest) (ending names s.state.words more) first.small second.small (ends_ending names r.state.words rest) (ends_ending names s.state.words more) numbers in
      let one = endings_same r.state s.state rest more fits.state suits.state number.1 in
      (first.is ∙ ap Some number.0 ∙ sym second.is, one.0, one.1)

  -- a line gives its row
  pub row_once : (counted : Bool) (u : ℕ) (r s : Row) (rest more : List ℕ) → IsRow fields counted r → IsRow fields counted s → row_line names u r ++ rest ≡ row_line names u s ++ more → (r ≡ s) × (rest ≡ more)
  row_once counted u r s rest more fits suits same =
      let inner = append_cancel_left (decimal u) (row_text names r ++ rest) (row_text names s ++ more) (sym (append_assoc (decimal u) (row_text names r) rest) ∙ same ∙ append_assoc (decimal u) (row_text names s) more) in
      let parts = texts_same counted r s rest more fits suits inner in
      ((λ j. record { moves = parts.0 j; state = parts.1 j }), parts.2)

pub row_some : (names : List (List ℕ)) (u : ℕ) (row : Row) (rest : List ℕ) → 1 ≤ length (row_line names u row ++ rest)
row_some names u row rest =
    let a = length-append (row_line names u row) rest in
    let b = length-append (decimal u) (row_text names row) in
    let c = length-append (moves_text row.moves) (fields_text names row.state.words ++ 10 ∷ []) in
    let d = length-append (fields_text names row.state.words) (10 ∷ []) in
    omega (arith, a, b, c, d)

-- the rows after those whose lines come first, and their lines
pub record Continues (names : List (List ℕ)) (u : ℕ) (good rows : List Row) (rest : List ℕ) : Type 0 where
  pub tail : List Row
  pub whole : rows ≡ good ++ tail
  pub left : rest ≡ row_lines names (u + length good) tail

-- any row
abbrev pub any_row : Row
any_row = record { moves = None; state = blank }

module _ (names : List (List ℕ)) (fields : ℕ) (counted : Bool) (count : length names ≡ fields) (few : fields ≤ 8) where
  pub rows_continue : (u : ℕ) (good rows : List Row) (rest : List ℕ) → All (IsRow fields counted) good → All (IsRow fields counted) rows → row_lines names u good ++ rest ≡ row_lines names u rows → Continues names u good rows rest
  rows_continue u [] rows rest fits suits same =
      let at : u + 0 ≡ u = omega arith in
      record { tail = rows; whole = refl; left = same ∙ ap (λ n. row_lines names n rows) (sym at) }
  rows_continue u (g ∷ good) [] rest fits suits same =
      let some = row_some names u g (row_lines names (u + 1) good ++ rest) in
      let none = ap length (sym (append_assoc (row_line names u g) (row_lines names (u + 1) good) rest) ∙ same) in
      absurd (omega (arith, some, none))
  rows_continue u (g ∷ good) (s ∷ rows) rest fits suits same =
      let apart : row_line names u g ++ (row_lines names (u + 1) good ++ rest) ≡ row_line names u s ++ row_lines names (u + 1) rows = sym (append_assoc (row_line names u g) (row_lines names (u + 1) good) rest) ∙ same in
      let head = row_once names fields count few counted u g s (row_lines names (u + 1) good ++ rest) (row_lines names (u + 1) rows) (fits 0 any_row (omega arith)) (suits 0 any_row (omega arith)) apart in
      let more = rows_continue (u + 1) good rows rest (all_behind (IsRow fields counted) g good fits) (all_behind (IsRow fields counted) s rows suits) head.1 in
      let at : u + 1 + length good ≡ u + suc (length good) = omega arith in
      record {
        tail = more.tail;
        whole = ap (λ x. x ∷ rows) (sym head.0) ∙ ap (λ xs. g ∷ xs) more.whole;
        left = more.left ∙ ap (λ n. row_lines names n more.tail) at;
      }

-- the row of a node whose line stands at the front
pub record NextRow (names : List (List ℕ)) (fields : ℕ) (counted : Bool) (u : ℕ) (rest : List ℕ) : Type 0 where
  pub row : Row
  pub behind : List ℕ
  pub fits : IsRow fields counted row
  pub is : rest ≡ row_line names u row ++ behind

-- after fewer rows the next one of more stands
pub rows_next : (names : List (List ℕ)) (fields : ℕ) (counted : Bool) → length names ≡ fields → fields ≤ 8 → (u : ℕ) (good rows : List Row) (rest more : List ℕ) → All (IsRow fields counted) good → All (IsRow fields counted) rows → length good < length rows
    → row_lines names u good ++ rest ≡ row_lines names u rows ++ more → NextRow names fields counted (u + length good) rest
rows_next names fields counted count few u [] [] rest more fits suits less same = absurd (omega arith)
rows_next names fields counted count few u [] (s ∷ rows) rest more fits suits less same =
    let at : u ≡ u + 0 = omega arith in
    record {
      row = s;
      behind = row_lines names (u + 1) rows ++ more;
      fits = suits 0 any_row (omega arith);
      is = same ∙ append_assoc (row_line names u s) (row_lines names (u + 1) rows) more ∙ ap (λ n. row_line names n s ++ (row_lines names (u + 1) rows ++ more)) at;
    }
rows_next names fields counted count few u (g ∷ good) [] rest more fits suits less same = absurd (omega arith)
rows_next names fields counted count few u (g ∷ good) (s ∷ rows) rest more fits suits less same =
    let apart = sym (append_assoc (row_line names u g) (row_lines names (u + 1) good) rest) ∙ same ∙ append_assoc (row_line names u s) (row_lines names (u + 1) rows) more in
    let head = row_once names fields count few counted u g s (row_lines names (u + 1) good ++ rest) (row_lines names (u + 1) rows ++ more) (fits 0 any_row (omega arith)) (suits 0 any_row (omega arith)) apart in
    let next = rows_next names fields counted count few (u + 1) good rows rest more (all_behind (IsRow fields counted) g good fits) (all_behind (IsRow fields counted) s rows suits) (omega arith) head.1 in
    let at : u + 1 + length good ≡ u + suc (length good) = omega arith in
    subst (λ n. NextRow names fields counted n rest) at next

line_last : (names : List (List ℕ)) (u k : ℕ) (rows : List Row) (row : Row) → k ≡ u + length rows → row_lines names u (rows ++ row ∷ []) ≡ row_lines names u rows ++ row_line names k row
line_last names u k [] row at = let e : u ≡ k = omega arith in append-nil (row_line names u row) ∙ ap (λ n. row_line names n row) e
line_last names u k (s ∷ rows) row at =
    ap (λ t. row_line names u s ++ t) (line_last names (u + 1) k rows row (omega arith)) ∙ sym (append_assoc (row_line names u s) (row_lines names (u + 1) rows) (row_line names k row))

-- the lines so far, with one more
pub lines_more : (names : List (List ℕ)) (text rest more : List ℕ) (rows : List Row) (k : ℕ) (row : Row) → k ≡ length rows → text ≡ row_lines names 0 rows ++ rest → rest ≡ row_line names k row ++ more → text ≡ row_lines names 0 (rows ++ row ∷ []) ++ more
lines_more names text rest more rows k row at done read =
    done ∙ ap (λ r. row_lines names 0 rows ++ r) read ∙ sym (append_assoc (row_lines names 0 rows) (row_line names k row) more)
    ∙ ap (λ t. t ++ more) (sym (line_last names 0 k rows row (omega arith)))
