-- The lines of tables' texts.
use Rattle.std.proofs.Common.{◌≡◌, ℕ, zero, suc, ◌+◌, ◌-◌, ◌<◌, ◌≤◌, ◌^◌, ◌==◌, Bool, true, false, List, [], ◌∷◌, ◌++◌, length, take, drop, refl, sym, ap, ◌∙◌, arith, append_assoc, All, Option, Some, None, codes, if◌then◌else◌}
use Rattle.std.specs.Fmt.{decimal}
use Rattle.std.proofs.lemmas.Bool.Decides.{Decides-eqb}
use Rattle.std.proofs.lemmas.List.{append-nil, length-take, take-append-drop, drop_all}
use Rattle.link_net.specs.Limits.{most_rows}
use Rattle.report_text.specs.Lines.{put_byte, lines_of}
use Rattle.report_text.specs.Report.{fields_text, round_line}
use Rattle.report_text.proofs.FieldNames.{names_in_line}
use Rattle.report_text.proofs.Lines.{IsInLine, line_split, inline_append}
use Rattle.report_text.proofs.Once.{small_words}
use Rattle.report_text.proofs.ReportLines.{number_inline, fields_inline, round_split}
use Rattle.report_text.proofs.ReportOnce.{all_behind}
use Rattle.report_files.specs.declared.tables.row.Row.{Row}
use Rattle.report_files.specs.tables.Stops.{round_lines}
use Rattle.report_files.specs.tables.Tables.{AreFields, FitMoves, FitRound, IsRow, moves_text, row_line, row_lines, round_text}
use Rattle.report_files.proofs.tables.RowLines.{any_row}

-- ---- the lines of a text, joined again

abbrev pub joined : List (List ℕ) → List ℕ
joined [] = []
joined (line ∷ lines) = line ++ joined lines

joined_append : (xs ys : List (List ℕ)) → joined (xs ++ ys) ≡ joined xs ++ joined ys
joined_append [] ys = refl
joined_append (x ∷ xs) ys = ap (λ t. x ++ t) (joined_append xs ys) ∙ sym (append_assoc x (joined xs) (joined ys))

joined_put : (b : ℕ) (bytes : List ℕ) (lines : List (List ℕ)) → joined lines ≡ bytes → joined (put_byte b lines) ≡ b ∷ bytes
joined_put b bytes [] is = ap (λ t. b ∷ t) is
joined_put b bytes (line ∷ lines) is = ap (λ t. b ∷ t) is

joined_next : (b : ℕ) (bytes : List ℕ) (ends : Bool) → (b == 10) ≡ ends → joined (lines_of bytes) ≡ bytes → joined (if ends then (10 ∷ []) ∷ lines_of bytes else put_byte b (lines_of bytes)) ≡ b ∷ bytes
joined_next b bytes true at is = let ten : b ≡ 10 = (Decides-eqb b 10).0 at in ap (λ t. 10 ∷ t) is ∙ ap (λ x. x ∷ bytes) (sym ten)
joined_next b bytes false at is = joined_put b bytes (lines_of bytes) is

joined_lines : (bytes : List ℕ) → joined (lines_of bytes) ≡ bytes
joined_lines [] = refl
joined_lines (b ∷ bytes) = joined_next b bytes (b == 10) refl (joined_lines bytes)

-- ---- the lines of rows

abbrev row_texts : List (List ℕ) → ℕ → List Row → List (List ℕ)
row_texts names u [] = []
row_texts names u (row ∷ rows) = row_line names u row ∷ row_texts names (u + 1) rows

count_texts : (names : List (List ℕ)) (u : ℕ) (rows : List Row) → length (row_texts names u rows) ≡ length rows
count_texts names u [] = refl
count_texts names u (row ∷ rows) = ap suc (count_texts names (u + 1) rows)

take_texts : (names : List (List ℕ)) (u n : ℕ) (rows : List Row) → take n (row_texts names u rows) ≡ row_texts names u (take n rows)
take_texts names u zero rows = refl
take_texts names u (suc n) [] = refl
take_texts names u (suc n) (row ∷ rows) = ap (λ ls. row_line names u row ∷ ls) (take_texts names (u + 1) n rows)

joined_texts : (names : List (List ℕ)) (u : ℕ) (rows : List Row) → joined (row_texts names u rows) ≡ row_lines names u rows
joined_texts names u [] = refl
joined_texts names u (row ∷ rows) = ap (λ t. row_line names u row ++ t) (joined_texts names (u + 1) rows)

moves_inline : (counted : Bool) (moves : Option ℕ) → FitMoves counted moves → IsInLine (moves_text moves)
moves_inline true (Some count) small = inline_append (codes " moves ") (decimal count) ((λ e. absurd (omega arith)), ((λ e. absurd (omega arith)), ((λ e. absurd (omega arith)), ((λ e. absurd (omega arith)), ((λ e. absurd (omega arith)), ((λ e. absurd (omega arith)), ((λ e. absurd (omega arith)), tt))))))) (number_inline count small)
moves_inline true None fit = tt
moves_inline false (Some count) fit = absurd fit
moves_inline false None fit = tt

module _ (names : List (List ℕ)) (counted : Bool) (few : length names ≤ 8) (plain : All IsInLine names) where
  row_split : (u : ℕ) (row : Row) (rest : List ℕ) → u < 2 ^ 32 → IsRow (length names) counted row → lines_of (row_line names u row ++ rest) ≡ row_line names u row ∷ lines_of rest
  row_split u row rest small fits =
      let moves = moves_text row.moves in
      let values = fields_text names row.state.words in
      let body = decimal u ++ (moves ++ values) in
      let inline = inline_append (decimal u) (moves ++ values) (number_inline u small) (inline_append moves values (moves_inline counted row.moves fits.moves) (fields_inline names row.state.words plain (small_words names (length names) row.state refl few fits.state))) in
      let whole : row_line names u row ≡ body ++ 10 ∷ [] = ap (λ t. decimal u ++ t) (sym (append_assoc moves values (10 ∷ []))) ∙ sym (append_assoc (decimal u) (moves ++ values) (10 ∷ [])) in
      ap (λ t. lines_of (t ++ rest)) whole ∙ ap lines_of (append_assoc body (10 ∷ []) rest) ∙ line_split body rest inline ∙ ap (λ l. l ∷ lines_of rest) (sym whole)

  rows_split : (u : ℕ) (rows : List Row) (rest : List ℕ) → u + length rows ≤ 2 ^ 32 → All (IsRow (length names) counted) rows → lines_of (row_lines names u rows ++ rest) ≡ row_texts names u rows ++ lines_of rest
  rows_split u [] rest small fits = refl
  rows_split u (row ∷ rows) rest small fits =
      ap lines_of (append_assoc (row_line names u row) (row_lines names (u + 1) rows) rest)
      ∙ row_split u row (row_lines names (u + 1) rows ++ rest) (omega arith) (fits 0 any_row (omega arith))
      ∙ ap (λ ls. row_line names u row ∷ ls) (rows_split (u + 1) rows rest (omega arith) (all_behind (IsRow (length names) counted) row rows fits))

-- ---- the lines of a table

-- the line of the round, where there is one, and the lines of rows
abbrev pub table_lines : Option ℕ → List (List ℕ) → List Row → List (List ℕ)
table_lines None names rows = row_texts names 0 rows
table_lines (Some round) names rows = round_line round ∷ row_texts names 0 rows

pub count_lines : (round : Option ℕ) (names : List (List ℕ)) (rows : List Row) → length (table_lines round names rows) ≡ round_lines round + length rows
count_lines None names rows = (let size = count_texts names 0 rows in omega (arith, size))
count_lines (Some round) names rows = (let size = count_texts names 0 rows in omega (arith, size))

take_lines : (round : Option ℕ) (names : List (List ℕ)) (rows : List Row) (n : ℕ) → 1 ≤ n → take n (table_lines round names rows) ≡ table_lines round names (take (n - round_lines round) rows)
take_lines None names rows n some = let all : n ≡ n - 0 = omega arith in take_texts names 0 n rows ∙ ap (λ k. row_texts names 0 (take k rows)) all
take_lines (Some round) names rows zero some = absurd (omega arith)
take_lines (Some round) names rows (suc n) some = let less : n ≡ suc n - 1 = omega arith in ap (λ ls. round_line round ∷ ls) (take_texts names 0 n rows ∙ ap (λ k. row_texts names 0 (take k rows)) less)

joined_table : (round : Option ℕ) (names : List (List ℕ)) (rows : List Row) → joined (table_lines round names rows) ≡ round_text round ++ row_lines names 0 rows
joined_table None names rows = joined_texts names 0 rows
joined_table (Some round) names rows = ap (λ t. round_line round ++ t) (joined_texts names 0 rows)

-- the lines of a text that begins with those of a table
pub split_table : (round : Option ℕ) (names : List (List ℕ)) (counted : Bool) (rows : List Row) (rest : List ℕ) → FitRound round → AreFields names → length rows ≤ most_rows → All (IsRow (length names) counted) rows
    → lines_of (round_text round ++ (row_lines names 0 rows ++ rest)) ≡ table_lines round names rows ++ lines_of rest
split_table None names counted rows rest fit are many fits = rows_split names counted are.few (names_in_line names are.names) 0 rows rest (omega arith) fits
split_table (Some round) names counted rows rest fit are many fits =
    round_split round (row_lines names 0 rows ++ rest) fit
    ∙ ap (λ ls. round_line round ∷ ls) (rows_split names counted are.few (names_in_line names are.names) 0 rows rest (omega arith) fits)

-- the lines of a table's text
pub lines_of_table : (round : Option ℕ) (names : List (List ℕ)) (counted : Bool) (rows : List Row) → FitRound round → AreFields names → length rows ≤ most_rows → All (IsRow (length names) counted) rows → lines_of (round_text round ++ row_lines names 0 rows) ≡ table_lines round names rows
lines_of_table round names counted rows fit are many fits =
    ap (λ t. lines_of (round_text round ++ t)) (sym (append-nil (row_lines names 0 rows)))
    ∙ split_table round names counted rows [] fit are many fits ∙ append-nil (table_lines round names rows)

-- ---- a text whose first lines are those of a table

module _ (text : List ℕ) (round : Option ℕ) (names : List (List ℕ)) (rows : List Row) (n : ℕ) (some : 1 ≤ n) (same : take n (lines_of text) ≡ take n (table_lines round names rows)) where
  -- it begins with the table's first rows
  pub first_rows : text ≡ round_text round ++ (row_lines names 0 (take (n - round_lines round) rows) ++ joined (drop n (lines_of text)))
  first_rows =
      let front = take (n - round_lines round) rows in
      let back = joined (drop n (lines_of text)) in
      sym (joined_lines text) ∙ ap joined (sym (take-append-drop n (lines_of text))) ∙ joined_append (take n (lines_of text)) (drop n (lines_of text))
      ∙ ap (λ ls. joined ls ++ back) (same ∙ take_lines round names rows n some)
      ∙ ap (λ t. t ++ back) (joined_table round names front)
      ∙ append_assoc (round_text round) (row_lines names 0 front) back

  -- and nothing stands after them, where the table has fewer lines
  pub nothing_behind : round_lines round + length rows < n → joined (drop n (lines_of text)) ≡ []
  nothing_behind short =
      let mine = length-take n (lines_of text) in
      let its = length-take n (table_lines round names rows) in
      let size = ap length same in
      let count = count_lines round names rows in
      ap joined (drop_all n (lines_of text) (omega (arith, mine, its, size, count)))
