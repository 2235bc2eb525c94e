-- Tables that are read.
use Rattle.std.proofs.Common.{Result, Ok, Err, IfErr, IsErrAnd, get_or, ◌⊎◌, inl, inr, ◌≡◌, ◌≢◌, ℕ, ◌+◌, ◌<◌, ◌≤◌, ◌==◌, Bool, true, false, List, [], ◌∷◌, ◌++◌, length, refl, sym, ap, subst, ◌∙◌, arith, append_assoc, length-append, All, Option, Some, None}
use Rattle.std.specs.Fmt.{decimal}
use Rattle.std.proofs.lemmas.Bool.Decides.{Decides-eqb}
use Rattle.std.proofs.lemmas.Fmt.{decimal_digit}
use Rattle.std.proofs.lemmas.List.{append-nil}
use Rattle.link_net.specs.Limits.{most_rows}
use Rattle.report_text.specs.Front.{IsFront, Anything}
use Rattle.report_text.specs.Report.{round_line}
use Rattle.report_text.proofs.Once.{round_once}
use Rattle.report_text.proofs.ReportOnce.{all_behind}
use Rattle.report_files.specs.declared.tables.row.Row.{Row}
use Rattle.report_files.specs.declared.tables.fault.TableFault.{TableFault}
use Rattle.report_files.specs.declared.tables.fault.TableFault.TheVariants.{BadLine, TooManyNodes, Memory}
use Rattle.report_files.specs.tables.Tables.{TableView, IsRow, IsTable, HasTable, FitRound, row_text, row_line, row_lines, round_text, is_counted}
use Rattle.report_files.specs.tables.Stops.{IsStopped, AreFirstNames, AreRefused, round_lines}
use Rattle.report_files.proofs.tables.RowLines.{any_row, row_some, rows_continue}
use Rattle.report_text.proofs.ReadFields.{Small}

pub is_nothing : (bytes : List ℕ) (empty : Bool) → empty ≡ (length bytes == 0) → empty ≡ true → bytes ≡ []
is_nothing [] empty is holds = refl
is_nothing (b ∷ bytes) empty is holds = (let none = (Decides-eqb (length (b ∷ bytes)) 0).0 (sym is ∙ holds) in absurd (omega arith))

pub is_something : (bytes : List ℕ) (empty : Bool) → empty ≡ (length bytes == 0) → empty ≡ false → bytes ≢ []
is_something bytes empty is holds none = let bad : false ≡ true = sym holds ∙ is ∙ ap (λ b. length b == 0) none in cc

-- the first row of some
pub record FirstRow (names : List (List ℕ)) (fields : ℕ) (counted : Bool) (lines : List ℕ) : Type 0 where
  pub row : Row
  pub rest : List ℕ
  pub fits : IsRow fields counted row
  pub is : lines ≡ row_line names 0 row ++ rest

pub first_row : (names : List (List ℕ)) (fields : ℕ) (counted : Bool) (lines : List ℕ) (rows : List Row) → 1 ≤ length rows → All (IsRow fields counted) rows → lines ≡ row_lines names 0 rows → FirstRow names fields counted lines
first_row names fields counted lines [] some fits is = absurd (omega arith)
first_row names fields counted lines (r ∷ rows) some fits is = record { row = r; rest = row_lines names 1 rows; fits = fits 0 any_row (omega arith); is = is }

module _ (names : List (List ℕ)) (counted : Bool) (few : length names ≤ 8) (lines : List ℕ) (rows : List Row) (some : 1 ≤ length rows) (many : length rows ≤ most_rows) (fits : All (IsRow (length names) counted) rows) (is : lines ≡ row_lines names 0 rows) where
  no_row : (good tail : List Row) (rest : List ℕ) → rows ≡ good ++ tail → rest ≡ row_lines names (0 + length good) tail → ((good ≡ []) ⊎ (rest ≢ [])) → ((row : Row) (behind : List ℕ) → IsRow (length names) counted row → rest ≢ row_line names (length good) row ++ behind) → ⊥
  no_row good [] rest whole left (inl none) missing = (let size = ap length (whole ∙ append-nil good ∙ none) in omega (arith, size, some))
  no_row good [] rest whole left (inr open_end) missing = open_end left
  no_row good (s ∷ tail) rest whole left opened missing =
      let all = subst (All (IsRow (length names) counted)) whole fits in
      let fit = behind_all good all in
      let at : 0 + length good ≡ length good = omega arith in
      missing s (row_lines names (length good + 1) tail) fit (left ∙ ap (λ n. row_lines names n (s ∷ tail)) at)
    where
      behind_all : (front : List Row) → All (IsRow (length names) counted) (front ++ s ∷ tail) → IsRow (length names) counted s
      behind_all [] all = all 0 any_row (omega arith)
      behind_all (f ∷ front) all = behind_all front (all_behind (IsRow (length names) counted) f (front ++ s ∷ tail) all)

  too_long : (good tail : List Row) (rest : List ℕ) → rows ≡ good ++ tail → rest ≡ row_lines names (0 + length good) tail → length good ≡ most_rows → rest ≢ [] → ⊥
  too_long good [] rest whole left full open_end = open_end left
  too_long good (s ∷ tail) rest whole left full open_end = (let size : length rows ≡ length good + length (s ∷ tail) = ap length whole ∙ length-append good (s ∷ tail) in omega (arith, many, full, size))

  -- the lines of a table are refused for want of memory alone
  pub only_memory : (before : ℕ) (fault : TableFault) → IsStopped names counted before lines fault → fault ≡ Memory
  only_memory before (BadLine line) (passed, stop, at) =
      let on = rows_continue names (length names) counted refl few 0 stop.good rows stop.rest stop.fit fits (sym stop.cut ∙ is) in
      absurd (no_row stop.good on.tail stop.rest on.whole on.left stop.opened stop.missing)
  only_memory before (TooManyNodes line) (long, at) =
      let on = rows_continue names (length names) counted refl few 0 long.good rows long.rest long.fit fits (sym long.cut ∙ is) in
      absurd (too_long long.good on.tail long.rest on.whole on.left long.full long.opened)
  only_memory before Memory stop = refl

  -- and give the rows that are read
  pub same_rows : (read : List Row) → All (IsRow (length names) counted) read → lines ≡ row_lines names 0 read → read ≡ rows
  same_rows read good is_read =
      let on = rows_continue names (length names) counted refl few 0 read rows [] good fits (append-nil (row_lines names 0 read) ∙ sym is_read ∙ is) in
      none_behind on.tail on.whole on.left
    where
      none_behind : (tail : List Row) → rows ≡ read ++ tail → [] ≡ row_lines names (0 + length read) tail → read ≡ rows
      none_behind [] whole left = sym (whole ∙ append-nil read)
      none_behind (s ∷ tail) whole left = (let size = ap length left in let has = row_some names (0 + length read) s (row_lines names (0 + length read + 1) tail) in absurd (omega (arith, size, has)))

-- ---- the round

head_apart : (d x y more : List ℕ) (b : ℕ) → d ≡ b ∷ [] → b < 58 → (d ++ x) ++ y ≡ 114 ∷ more → ⊥
head_apart d x y more b is digit e =
    let first : (b ∷ x) ++ y ≡ 114 ∷ more = ap (λ d. (d ++ x) ++ y) (sym is) ∙ e in
    let same : b ≡ 114 = ap (λ l. get_or l 0 0) first in
    omega (arith, same, digit)

pub zero_first : (names : List (List ℕ)) (rows : List Row) (more : List ℕ) (u r : ℕ) (lines : List ℕ) → 1 ≤ length rows → u < 10 → row_lines names u rows ++ more ≡ round_line r ++ lines → ⊥
zero_first names [] more u r lines some low e = omega arith
zero_first names (row ∷ rows) more u r lines some low e = head_apart (decimal u) (row_text names row) (row_lines names (u + 1) rows ++ more) _ (48 + u) (decimal_digit u low) (omega arith) (sym (append_assoc (row_line names u row) (row_lines names (u + 1) rows) more) ∙ e)

module _ (bytes : List ℕ) (t : TableView) (has : HasTable bytes t) where
  round_cases : (round : Option ℕ) → FitRound round → (r : ℕ) (lines : List ℕ) → Small r → round_text round ++ row_lines t.fields 0 t.rows ≡ round_line r ++ lines → (round ≡ Some r) × (lines ≡ row_lines t.fields 0 t.rows)
  round_cases None fit r lines small e = absurd (zero_first t.fields t.rows [] 0 r lines has.is_table.some (omega arith) (append-nil (row_lines t.fields 0 t.rows) ∙ e))
  round_cases (Some q) fit r lines small e =
      let once = round_once q r (row_lines t.fields 0 t.rows) lines fit small e in
      (ap Some once.0, sym once.1)

  pub round_read : (r : ℕ) (lines : List ℕ) → Small r → bytes ≡ round_line r ++ lines → (t.round ≡ Some r) × (lines ≡ row_lines t.fields 0 t.rows)
  round_read r lines small cut = round_cases t.round has.is_table.round r lines small (sym has.text ∙ cut)

  none_cases : (round : Option ℕ) → FitRound round → IsFront round_line Small Anything bytes None → bytes ≡ round_text round ++ row_lines t.fields 0 t.rows → (round ≡ None) × (bytes ≡ row_lines t.fields 0 t.rows)
  none_cases None fit none e = (refl, e)
  none_cases (Some q) fit none e = absurd (none q (row_lines t.fields 0 t.rows) fit tt e)

  pub round_none : IsFront round_line Small Anything bytes None → (t.round ≡ None) × (bytes ≡ row_lines t.fields 0 t.rows)
  round_none none = none_cases t.round has.is_table.round none has.text

-- ---- what is returned

err_is : {A : Type 0} (result : Result A TableFault) (fault : TableFault) → IsErrAnd result (λ e. e ≡ fault) → fault ≡ Memory → IfErr result (λ f. f ≡ Memory)
err_is (Ok x) fault given is = tt
err_is (Err e) fault given is = given ∙ is

pub err_memory : {A : Type 0} (names : List (List ℕ)) (counted : Bool) (few : length names ≤ 8) (lines : List ℕ) (rows : List Row) → 1 ≤ length rows → length rows ≤ most_rows → All (IsRow (length names) counted) rows → lines ≡ row_lines names 0 rows
    → (before : ℕ) (fault : TableFault) (result : Result A TableFault) → IsErrAnd result (λ e. e ≡ fault) → IsStopped names counted before lines fault → IfErr result (λ f. f ≡ Memory)
err_memory names counted few lines rows some many fits is before fault result given stop = err_is result fault given (only_memory names counted few lines rows some many fits is before fault stop)

pub table_same : (t : TableView) → IsTable t → (lines : List ℕ) → lines ≡ row_lines t.fields 0 t.rows → (round : Option ℕ) → round ≡ t.round → (fields : List (List ℕ)) → fields ≡ t.fields → (read : List Row) → All (IsRow (length t.fields) (is_counted t.round)) read → lines ≡ row_lines t.fields 0 read
    → ◌≡◌ {A = TableView} (record { round = round; fields = fields; rows = read }) t
table_same t is lines e round rounds fields names read fits text =
    let rows = same_rows t.fields (is_counted t.round) is.fields.few lines t.rows is.some is.few is.rows e read fits text in
    λ j. record { round = rounds j; fields = names j; rows = rows j }

lines_is : {A : Type 0} (round : Option ℕ) (lines : List ℕ) (result : Result A TableFault) (fault : TableFault) → IsErrAnd result (λ e. e ≡ fault) → AreRefused round lines fault → IfErr result (AreRefused round lines)
lines_is round lines (Ok x) fault given why = tt
lines_is round lines (Err e) fault given why = subst (AreRefused round lines) (sym given) why

are_refused : (round : Option ℕ) (lines : List ℕ) (fields : List (List ℕ)) → AreFirstNames (is_counted round) lines fields → (fault : TableFault) → IsStopped fields (is_counted round) (round_lines round) lines fault → AreRefused round lines fault
are_refused round lines fields names (BadLine line) stop = record { fields = fields; names = names; why = stop }
are_refused round lines fields names (TooManyNodes line) stop = record { fields = fields; names = names; why = stop }
are_refused round lines fields names Memory stop = tt

pub lines_refused : {A : Type 0} (round : Option ℕ) (lines : List ℕ) (fields : List (List ℕ)) → AreFirstNames (is_counted round) lines fields → (fault : TableFault) (result : Result A TableFault) → IsErrAnd result (λ e. e ≡ fault) → IsStopped fields (is_counted round) (round_lines round) lines fault → IfErr result (AreRefused round lines)
lines_refused round lines fields names fault result given stop = lines_is round lines result fault given (are_refused round lines fields names fault stop)
