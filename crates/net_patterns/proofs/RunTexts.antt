-- Runs that are written are read.
use Rattle.std.proofs.Common.{◌≡◌, ℕ, zero, suc, ◌+◌, ◌*◌, ◌-◌, ◌<◌, ◌≤◌, ◌==◌, ◌&&◌, ◌^◌, true, false, List, [], ◌∷◌, ◌++◌, length, nat_lt, nat_le, refl, ap, ◌∙◌, arith, Some, None, Ok, append_assoc, append-nil}
use Rattle.std.specs.Char.{is_ascii_digit, digit_value}
use Rattle.std.specs.Fmt.{decimal}
use Rattle.std.specs.Str.Parse.{AllDigits, IsNumeral, digits_value, digits_value_after}
use Rattle.std.specs.List.{list_all}
use Rattle.std.proofs.lemmas.Bool.{and_parts}
use Rattle.std.proofs.lemmas.Bool.Decides.{nat_tests}
use Rattle.std.proofs.lemmas.Fmt.{decimal_is_IsNumeral}
use Rattle.std.proofs.lemmas.Str.{digit_value_digit}
use Rattle.std.proofs.lemmas.Str.Parse.{digit_from_value}
use Rattle.net_patterns.specs.declared.board.Cell.{Cell}
use Rattle.net_patterns.specs.declared.board.Mark.{Mark}
use Rattle.net_patterns.specs.declared.board.Mark.TheVariants.{Dead, Alive, RowEnd}
use Rattle.net_patterns.specs.declared.span.Span.{Span}
use Rattle.net_patterns.specs.RunSteps.{line_past, pieces_from}
use Rattle.net_patterns.specs.Steps.{comes}
use Rattle.net_patterns.specs.Written.{IsAhead, cells_beside, column_at, is_gap, run_text}
use Rattle.net_patterns.proofs.MarkSteps.{rows_passed, dead_passed, alive_passed}

is_digit : (d : ℕ) → 48 ≤ d → d ≤ 57 → is_ascii_digit d ≡ true
is_digit d low high = grind (arith, nat_tests)

-- digits after a number
more_digits : (ds : List ℕ) (line n : ℕ) (rest : List ℕ) → AllDigits 10 ds → pieces_from line (Some n) 0 (ds ++ rest) ≡ pieces_from line (Some (digits_value_after 10 n ds)) 0 rest
more_digits [] line n rest all = refl
more_digits (d ∷ ds) line n rest all =
    let range = digit_from_value d all.0 in
    let value = digit_value_digit d range in
    let e : 10 * n + (d - 48) ≡ n * 10 + digit_value d = omega (arith, value) in
    rw (is_digit d (omega (arith, range)) (omega (arith, range)))
    (more_digits ds line (10 * n + (d - 48)) rest all.1 ∙ ap (λ k. pieces_from line (Some (digits_value_after 10 k ds)) 0 rest) e)

pub numeral_read : (ds : List ℕ) (line : ℕ) (rest : List ℕ) → IsNumeral 10 ds → pieces_from line None 0 (ds ++ rest) ≡ pieces_from line (Some (digits_value 10 ds)) 0 rest
numeral_read [] line rest numeral = absurd (omega (arith, numeral.0))
numeral_read (d ∷ ds) line rest numeral =
    let range = digit_from_value d numeral.1.0 in
    let value = digit_value_digit d range in
    let e : 0 + (d - 48) ≡ 0 + digit_value d = omega (arith, value) in
    rw (is_digit d (omega (arith, range)) (omega (arith, range)))
    (more_digits ds line (0 + (d - 48)) rest numeral.1.1 ∙ ap (λ k. pieces_from line (Some (digits_value_after 10 k ds)) 0 rest) e)

number_read : (n line : ℕ) (rest : List ℕ) → n < 2 ^ 64 → pieces_from line None 0 (decimal n ++ rest) ≡ pieces_from line (Some n) 0 rest
number_read n line rest few =
    let numeral = decimal_is_IsNumeral n few in
    numeral_read (decimal n) line rest numeral.0 ∙ ap (λ k. pieces_from line (Some k) 0 rest) numeral.1

-- letters that stand for a mark, read after a count and without one
pub record IsTag (tag : List ℕ) (mark : Mark) : Type 0 where
  pub counted : (line n : ℕ) (rest : List ℕ) → 0 < n → n ≤ 999999999 → pieces_from line (Some n) 0 (tag ++ rest) ≡ Ok (record { line = line; count = n; mark = mark }) ∷ pieces_from line None 0 rest
  pub single : (line : ℕ) (rest : List ℕ) → pieces_from line None 0 (tag ++ rest) ≡ Ok (record { line = line; count = 1; mark = mark }) ∷ pieces_from line None 0 rest

pub is_count : (n : ℕ) → 0 < n → n ≤ 999999999 → (nat_lt 0 n && nat_le n 999999999) ≡ true
is_count n some few = grind (arith, nat_tests)

not_same : (n k : ℕ) → k < n → (n == k) ≡ false
not_same n k more = grind (arith, nat_tests)

long_run : (tag : List ℕ) (n : ℕ) → 1 < n → run_text tag n ≡ decimal n ++ tag
long_run tag n more = rw (not_same n 0 (omega arith), not_same n 1 more) refl

-- a gap says nothing
no_digit : (b : ℕ) → is_gap b ≡ true → is_ascii_digit b ≡ false
no_digit b is = grind (arith, nat_tests)

-- the line after a gap
abbrev pub line_after : ℕ → List ℕ → ℕ
line_after line [] = line
line_after line (b ∷ bs) = line_after (line_past line b) bs

pub gap_passed : (gap : List ℕ) (line : ℕ) (rest : List ℕ) → list_all is_gap gap ≡ true → pieces_from line None 0 (gap ++ rest) ≡ pieces_from (line_after line gap) None 0 rest
gap_passed [] line rest all = refl
gap_passed (b ∷ bs) line rest all =
    let parts = and_parts (is_gap b) (list_all is_gap bs) all in
    rw (no_digit b parts.0, parts.0) (gap_passed bs (line_past line b) rest parts.1)

-- these bytes are read as so many copies of a mark, and what follows stands in some line
abbrev pub ReadsAs : ℕ → Mark → List ℕ → Type 0
ReadsAs n mark bytes =
    (front : List Cell) (column row line : ℕ) (rest : List ℕ)
    → (next : ℕ) × (comes front column row (pieces_from line None 0 (bytes ++ rest)) ≡ comes front column row (Ok (record { line = line; count = n; mark = mark }) ∷ pieces_from next None 0 rest))

-- a run that is written, with a gap right after its tag, is read as that run
run_alone : (tag behind : List ℕ) (mark : Mark) → IsTag tag mark → list_all is_gap behind ≡ true → (n : ℕ) → n ≤ 65536 → ReadsAs n mark (run_text (tag ++ behind) n)
run_alone tag behind mark is all zero few front column row line rest = (line, refl)
run_alone tag behind mark is all (suc zero) few front column row line rest = (
  line_after line behind,
  ap (λ bs. comes front column row (pieces_from line None 0 bs)) (append_assoc tag behind rest)
      ∙ ap (comes front column row) (is.single line (behind ++ rest) ∙ ap (λ pieces. Ok (record { line = line; count = 1; mark = mark }) ∷ pieces) (gap_passed behind line rest all)),
)
run_alone tag behind mark is all (suc (suc n)) few front column row line rest = (
  line_after line behind,
  ap (λ bs. comes front column row (pieces_from line None 0 bs)) (
      ap (λ bs. bs ++ rest) (long_run (tag ++ behind) (suc (suc n)) (omega arith))
      ∙ append_assoc (decimal (suc (suc n))) (tag ++ behind) rest
      ∙ ap (λ bs. decimal (suc (suc n)) ++ bs) (append_assoc tag behind rest)
      )
      ∙ ap (comes front column row) (
      number_read (suc (suc n)) line (tag ++ (behind ++ rest)) (omega arith)
      ∙ is.counted line (suc (suc n)) (behind ++ rest) (omega arith) (omega arith)
      ∙ ap (λ pieces. Ok (record { line = line; count = suc (suc n); mark = mark }) ∷ pieces) (gap_passed behind line rest all)
      ),
)

-- and so it is where another gap stands after it
pub run_read : (tag behind : List ℕ) (mark : Mark) → IsTag tag mark → list_all is_gap behind ≡ true → (gap : List ℕ) → list_all is_gap gap ≡ true → (n : ℕ) → n ≤ 65536 → ReadsAs n mark (run_text (tag ++ behind) n ++ gap)
run_read tag behind mark is all gap passed n few front column row line rest =
    let run = run_alone tag behind mark is all n few front column row line (gap ++ rest) in (
      line_after run.0 gap,
      ap (λ bs. comes front column row (pieces_from line None 0 bs)) (append_assoc (run_text (tag ++ behind) n) gap rest)
          ∙ run.1
          ∙ ap (λ pieces. comes front column row (Ok (record { line = line; count = n; mark = mark }) ∷ pieces)) (gap_passed gap run.0 rest passed),
    )

pub ends_tag : IsTag (36 ∷ []) RowEnd
ends_tag = record { counted = λ line n rest some few. rw (is_count n some few) refl; single = λ line rest. refl }

pub dead_tag : IsTag (98 ∷ []) Dead
dead_tag = record { counted = λ line n rest some few. rw (is_count n some few) refl; single = λ line rest. refl }

pub live_tag : IsTag (111 ∷ []) (Alive 1)
live_tag = record { counted = λ line n rest some few. rw (is_count n some few) refl; single = λ line rest. refl }

pub point_tag : IsTag (46 ∷ []) Dead
point_tag = record { counted = λ line n rest some few. rw (is_count n some few) refl; single = λ line rest. refl }

-- a run with no gap right after its tag
plain_run : (tag : List ℕ) (mark : Mark) → IsTag tag mark → (gap : List ℕ) → list_all is_gap gap ≡ true → (n : ℕ) → n ≤ 65536 → ReadsAs n mark (run_text tag n ++ gap)
plain_run tag mark is gap passed n few front column row line rest =
    rw (append-nil tag) at (run_read tag [] mark is refl gap passed n few front column row line rest)

-- a span that is written as runs of these tags, before what follows it
pub span_of_runs : (dead live : List ℕ) (s : Span) → IsTag dead Dead → IsTag live (Alive s.state) → (ends gap : List ℕ) → list_all is_gap ends ≡ true → list_all is_gap gap ≡ true
    → (most : ℕ) (front : List Cell) (column row line : ℕ) (rest : List ℕ) → IsAhead most column row s → length front + s.count ≤ 65536
    → (next : ℕ)
    × (comes front column row (pieces_from line None 0 ((run_text (36 ∷ ends) (s.row - row) ++ gap) ++ ((run_text dead (s.column - column_at column row s) ++ gap) ++ ((run_text live s.count ++ gap) ++ rest))))
    ≡ comes (front ++ cells_beside s.state s.row s.column s.count) (s.column + s.count) s.row (pieces_from next None 0 rest))
span_of_runs dead live s is_dead is_live ends gap all passed most front column row line rest is few =
    let begin = column_at column row s in
    let down = is.down in
    let right = is.right in
    let near = is.near in
    let third_text = (run_text live s.count ++ gap) ++ rest in
    let second_text = (run_text dead (s.column - begin) ++ gap) ++ third_text in
    let first = run_read (36 ∷ []) ends RowEnd ends_tag all gap passed (s.row - row) (omega (arith, is.low)) front column row line second_text in
    let second = plain_run dead Dead is_dead gap passed (s.column - begin) (omega arith) front begin s.row first.0 third_text in
    let third = plain_run live (Alive s.state) is_live gap passed s.count (omega arith) front s.column s.row second.0 rest in (
      third.0,
      first.1
          ∙ rows_passed (s.row - row) front column row s.row line (pieces_from first.0 None 0 second_text) (omega arith) is.low
          ∙ second.1
          ∙ dead_passed (s.column - begin) front begin s.row first.0 (pieces_from second.0 None 0 third_text) (omega arith)
          ∙ ap (λ c. comes front c s.row (pieces_from second.0 None 0 third_text)) (omega arith)
          ∙ third.1
          ∙ alive_passed s.count front s.column s.row second.0 s.state (pieces_from third.0 None 0 rest) few is.near is.low,
    )
