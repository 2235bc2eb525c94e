-- The first line of a text that no table has there.
use Rattle.std.proofs.Common.{Result, Ok, Err, IfErr, ◌⊎◌, inl, inr, ◌≡◌, ℕ, ◌+◌, ◌-◌, ◌<◌, ◌≤◌, Bool, true, false, List, [], ◌∷◌, ◌++◌, length, take, drop, refl, sym, ap, subst, ◌∙◌, arith, append_assoc, All, Option, Some, None}
use Rattle.std.proofs.lemmas.Bool.{cases_lt}
use Rattle.std.proofs.lemmas.List.{append-nil, length-take, take_at}
use Rattle.std.proofs.lemmas.List.Elements.{All-take}
use Rattle.link_net.specs.Limits.{most_rows}
use Rattle.rounds_plan.specs.Configs.{blank}
use Rattle.report_text.specs.Front.{IsFront, Anything}
use Rattle.report_text.specs.Lines.{lines_of}
use Rattle.report_text.specs.Report.{round_line}
use Rattle.report_text.proofs.BadLines.{blank_fits}
use Rattle.report_text.proofs.Once.{round_once}
use Rattle.report_text.proofs.ReadFields.{Small}
use Rattle.report_files.specs.declared.tables.row.Row.{Row}
use Rattle.report_files.specs.declared.tables.fault.TableFault.{TableFault}
use Rattle.report_files.specs.declared.tables.fault.TableFault.TheVariants.{BadLine, TooManyNodes, Memory}
use Rattle.report_files.specs.tables.Refusals.{BeginsLikeTable, HasTooManyNodes, IsFirstBadLine, IsRefused}
use Rattle.report_files.specs.tables.Stops.{StopsAt, GoesOn, AreFirstNames, AreRefused, round_lines}
use Rattle.report_files.specs.tables.Tables.{AreFields, FitRound, IsRow, is_counted, row_line, row_lines, round_text}
use Rattle.report_files.proofs.tables.RowLines.{any_row, rows_next}
use Rattle.report_files.proofs.tables.TableLines.{joined, table_lines, count_lines, split_table, lines_of_table, first_rows, nothing_behind}
use Rattle.report_files.proofs.tables.Tables.{only_memory, zero_first}

-- the round that the text begins with, or none, and what stands after its line
abbrev pub HasRound : List ℕ → Option ℕ → List ℕ → Type 0
HasRound text None lines = IsFront round_line Small Anything text None × (text ≡ lines)
HasRound text (Some round) lines = Small round × (text ≡ round_line round ++ lines)

round_cut : (round : Option ℕ) (text lines : List ℕ) → HasRound text round lines → text ≡ round_text round ++ lines
round_cut None text lines has = has.1
round_cut (Some round) text lines has = has.1

round_fits : (round : Option ℕ) (text lines : List ℕ) → HasRound text round lines → FitRound round
round_fits None text lines has = tt
round_fits (Some round) text lines has = has.0

-- a text that begins with rows, or with a round and rows, has that round
round_same : (round other : Option ℕ) (text lines : List ℕ) (names : List (List ℕ)) (rows : List Row) (more : List ℕ) → HasRound text round lines → FitRound other → (other ≡ None → 1 ≤ length rows)
    → text ≡ round_text other ++ (row_lines names 0 rows ++ more) → (other ≡ round) × (lines ≡ row_lines names 0 rows ++ more)
round_same None None text lines names rows more has fit some e = (refl, sym has.1 ∙ e)
round_same None (Some q) text lines names rows more has fit some e = absurd (has.0 q (row_lines names 0 rows ++ more) fit tt e)
round_same (Some r) None text lines names rows more has fit some e = absurd (zero_first names rows more 0 r lines (some refl) (omega arith) (sym e ∙ has.1))
round_same (Some r) (Some q) text lines names rows more has fit some e =
    let once = round_once q r (row_lines names 0 rows ++ more) lines fit has.0 (sym e ∙ has.1) in
    (ap Some once.0, sym once.1)

-- lines that stop do not begin with more rows, and are not those of a table
stopped : (names : List (List ℕ)) (counted : Bool) (few : length names ≤ 8) (lines : List ℕ) (passed : ℕ) → StopsAt names counted lines passed → (rows : List Row) (more : List ℕ) → 1 ≤ length rows → length rows ≤ most_rows → All (IsRow (length names) counted) rows
    → lines ≡ row_lines names 0 rows ++ more → (passed < length rows) ⊎ (more ≡ []) → ⊥
stopped names counted few lines passed stop rows more some many fits is (inl less) =
    let next = rows_next names (length names) counted refl few 0 stop.good rows stop.rest more stop.fit fits (omega (arith, stop.place)) (sym stop.cut ∙ is) in
    let at : 0 + length stop.good ≡ length stop.good = omega arith in
    stop.missing next.row next.behind next.fits (next.is ∙ ap (λ n. row_line names n next.row ++ next.behind) at)
stopped names counted few lines passed stop rows more some many fits is (inr none) =
    let whole = is ∙ ap (λ t. row_lines names 0 rows ++ t) none ∙ append-nil (row_lines names 0 rows) in
    let memory : BadLine (0 + (passed + 1)) ≡ Memory = only_memory names counted few lines rows some many fits whole 0 (BadLine (0 + (passed + 1))) (passed, stop, refl) in
    cc

-- the names of the first row are those that were found
first_named : (counted : Bool) (lines : List ℕ) (fields : List (List ℕ)) → AreFirstNames counted lines fields → (names : List (List ℕ)) (rows : List Row) (more : List ℕ) → AreFields names → 1 ≤ length rows → All (IsRow (length names) counted) rows → lines ≡ row_lines names 0 rows ++ more → fields ≡ names
first_named counted lines fields found names [] more are some fits is = absurd (omega arith)
first_named counted lines fields found names (row ∷ rows) more are some fits is =
    found.only names row (row_lines names 1 rows ++ more) are (fits 0 any_row (omega arith)) (is ∙ append_assoc (row_line names 0 row) (row_lines names 1 rows) more)

refuted : (counted : Bool) (lines : List ℕ) (fields : List (List ℕ)) (passed : ℕ) → AreFirstNames counted lines fields → StopsAt fields counted lines passed → (names : List (List ℕ)) (rows : List Row) (more : List ℕ) → AreFields names → 1 ≤ length rows → length rows ≤ most_rows → All (IsRow (length names) counted) rows
    → lines ≡ row_lines names 0 rows ++ more → (passed < length rows) ⊎ (more ≡ []) → ⊥
refuted counted lines fields passed found stop names rows more are some many fits is why =
    let same = first_named counted lines fields found names rows more are some fits is in
    stopped names counted are.few lines passed (subst (λ ns. StopsAt ns counted lines passed) same stop) rows more some many fits is why

-- ---- tables that begin as the text

abbrev plain_row : Bool → Row
plain_row true = record { moves = Some 0; state = blank }
plain_row false = record { moves = None; state = blank }

plain_fits : (counted : Bool) → IsRow 0 counted (plain_row counted)
plain_fits true = record { moves = omega arith; state = blank_fits 0 }
plain_fits false = record { moves = tt; state = blank_fits 0 }

no_fields : AreFields []
no_fields = record { few = omega arith; names = λ k d inside. absurd (omega arith) }

one_row : (fields : ℕ) (counted : Bool) (row : Row) → IsRow fields counted row → All (IsRow fields counted) (row ∷ [])
one_row fields counted row fits = λ k d inside. let at : k ≡ 0 = omega arith in rw at fits

-- the line of the round is in front, whatever the names
round_front : (round : Option ℕ) (names : List (List ℕ)) (row : Row) → table_lines round [] (row ∷ []) ≡ table_lines round names [] ++ row_line [] 0 row ∷ []
round_front None names row = refl
round_front (Some round) names row = refl

module _ (round : Option ℕ) (text : List ℕ) (names : List (List ℕ)) (fit : FitRound round) (are : AreFields names) where
  likes : (good : List Row) (rest : List ℕ) → text ≡ round_text round ++ (row_lines names 0 good ++ rest) → All (IsRow (length names) (is_counted round)) good → length good < most_rows → BeginsLikeTable text (round_lines round + length good)
  likes [] rest cut fits few =
      let row = plain_row (is_counted round) in
      let n = round_lines round + 0 in
      let head = table_lines round names [] in
      let size = count_lines round names [] in
      let suits = one_row 0 (is_counted round) row (plain_fits (is_counted round)) in
      let mine = ap lines_of cut ∙ split_table round names (is_counted round) [] rest fit are (omega arith) fits in
      let its = lines_of_table round [] (is_counted round) (row ∷ []) fit no_fields (omega arith) suits ∙ round_front round names row in
      record {
        table = record { round = round; fields = []; rows = row ∷ [] };
        is_table = record { round = fit; fields = no_fields; some = omega arith; few = omega arith; rows = suits };
        same = ap (take n) mine ∙ take_at head (lines_of rest) n size ∙ sym (ap (take n) its ∙ take_at head (row_line [] 0 row ∷ []) n size);
      }
  likes (g ∷ good) rest cut fits few =
      let n = round_lines round + length (g ∷ good) in
      let head = table_lines round names (g ∷ good) in
      let size = count_lines round names (g ∷ good) in
      let mine = ap lines_of cut ∙ split_table round names (is_counted round) (g ∷ good) rest fit are (omega arith) fits in
      let its = lines_of_table round names (is_counted round) (g ∷ good) fit are (omega arith) fits ∙ sym (append-nil head) in
      record {
        table = record { round = round; fields = names; rows = g ∷ good };
        is_table = record { round = fit; fields = are; some = omega arith; few = omega arith; rows = fits };
        same = ap (take n) mine ∙ take_at head (lines_of rest) n size ∙ sym (ap (take n) its ∙ take_at head [] n size);
      }

-- ---- why a text is refused

module _ (round : Option ℕ) (text lines : List ℕ) (has : HasRound text round lines) (fields : List (List ℕ)) (found : AreFirstNames (is_counted round) lines fields) where
  too_many : (line : ℕ) → GoesOn fields (is_counted round) lines → line ≡ round_lines round + (most_rows + 1) → HasTooManyNodes text line
  too_many line long at =
      let fit = round_fits round text lines has in
      let its = ap length (lines_of_table round fields (is_counted round) long.good fit found.are_fields (omega (arith, long.full)) long.fit) ∙ count_lines round fields long.good in
      record {
        table = record { round = round; fields = fields; rows = long.good };
        is_table = record { round = fit; fields = found.are_fields; some = omega (arith, long.full); few = omega (arith, long.full); rows = long.fit };
        full = long.full;
        rest = long.rest;
        whole = round_cut round text lines has ∙ ap (λ t. round_text round ++ t) long.cut ∙ sym (append_assoc (round_text round) (row_lines fields 0 long.good) long.rest);
        more = long.opened;
        place = omega (arith, at, its, long.full);
      }

  module _ (passed line : ℕ) (stop : StopsAt fields (is_counted round) lines passed) (at : line ≡ round_lines round + (passed + 1)) where
    before_it : BeginsLikeTable text (line - 1)
    before_it =
        let place : round_lines round + length stop.good ≡ line - 1 = omega (arith, at, stop.place) in
        subst (BeginsLikeTable text) place (likes round text fields (round_fits round text lines has) found.are_fields stop.good stop.rest (round_cut round text lines has ∙ ap (λ t. round_text round ++ t) stop.cut) stop.fit stop.few)

    none_begins : BeginsLikeTable text line → ⊥
    none_begins like =
        let t = like.table in
        let is = like.is_table in
        let k = line - round_lines t.round in
        let front = take k t.rows in
        let size = length-take k t.rows in
        let same = like.same ∙ ap (take line) (lines_of_table t.round t.fields (is_counted t.round) t.rows is.round is.fields is.few is.rows) in
        let cut = first_rows text t.round t.fields t.rows line (omega (arith, at)) same in
        let more = joined (drop line (lines_of text)) in
        let one = round_same round t.round text lines t.fields front more has is.round (λ none. omega (arith, at, size, is.some, ap round_lines none)) cut in
        let rounds = ap round_lines one.0 in
        let fits = subst (λ o. All (IsRow (length t.fields) (is_counted o)) front) one.0 (All-take (IsRow (length t.fields) (is_counted t.round)) k t.rows is.rows) in
        refuted (is_counted round) lines fields passed found stop t.fields front more is.fields (omega (arith, at, size, is.some, rounds)) (omega (arith, size, is.few)) fits one.1
        (elim (cases_lt passed (length t.rows)) [
          | inl less ↦ inl (omega (arith, at, size, rounds))
          | inr all ↦ inr (nothing_behind text t.round t.fields t.rows line (omega (arith, at)) same (omega (arith, at, rounds)))
        ])

    not_many : HasTooManyNodes text line → ⊥
    not_many many =
        let t = many.table in
        let is = many.is_table in
        let one = round_same round t.round text lines t.fields t.rows many.rest has is.round (λ none. is.some) (many.whole ∙ append_assoc (round_text t.round) (row_lines t.fields 0 t.rows) many.rest) in
        let fits = subst (λ o. All (IsRow (length t.fields) (is_counted o)) t.rows) one.0 is.rows in
        refuted (is_counted round) lines fields passed found stop t.fields t.rows many.rest is.fields is.some is.few fits one.1 (inl (omega (arith, many.full, stop.few, stop.place)))

    first_bad : IsFirstBadLine text line
    first_bad = record { counted = omega (arith, at); before = before_it; bad = none_begins; few = not_many }

is_refused : (round : Option ℕ) (text lines : List ℕ) → HasRound text round lines → (fault : TableFault) → AreRefused round lines fault → IsRefused text fault
is_refused round text lines has (BadLine line) why = first_bad round text lines has why.fields why.names why.why.0 line why.why.1 why.why.2
is_refused round text lines has (TooManyNodes line) why = too_many round text lines has why.fields why.names line why.why.0 why.why.1
is_refused round text lines has Memory why = tt

pub refused_all : {A : Type 0} (round : Option ℕ) (text lines : List ℕ) → HasRound text round lines → (result : Result A TableFault) → IfErr result (AreRefused round lines) → IfErr result (IsRefused text)
refused_all round text lines has (Ok x) why = tt
refused_all round text lines has (Err fault) why = is_refused round text lines has fault why
