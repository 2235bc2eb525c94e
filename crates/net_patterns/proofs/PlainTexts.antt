-- Rows of plain text that are written are read.
use Rattle.std.proofs.Common.{◌≡◌, ℕ, zero, suc, ◌+◌, ◌-◌, ◌<◌, ◌≤◌, ◌==◌, not, true, false, inl, inr, List, [], ◌∷◌, ◌++◌, length, refl, sym, ap, ◌∙◌, arith, cond, replicate, append_assoc, append-nil, length-append}
use Rattle.std.specs.List.{list_all, list_any}
use Rattle.std.proofs.Math.Bool.{or-true}
use Rattle.std.proofs.lemmas.Bool.{cases_lt}
use Rattle.net_patterns.specs.declared.board.Cell.{Cell}
use Rattle.net_patterns.specs.declared.span.Span.{Span}
use Rattle.net_patterns.specs.Steps.{comes}
use Rattle.net_patterns.specs.Texts.{is_comment, plain_pieces}
use Rattle.net_patterns.specs.Written.{IsAhead, cells_beside, cells_in, column_at, written_from, as_plain}
use Rattle.net_patterns.proofs.FirstLines.{is_row_byte}
use Rattle.net_patterns.proofs.BoardSteps.{comes-row_end}
use Rattle.net_patterns.proofs.MarkSteps.{same_row, later_row, dead_passed, alive_passed}

-- no row that is written begins as a comment does
no_comment : (n byte : ℕ) (rest : List ℕ) → (byte == 33) ≡ false → is_comment rest ≡ false → is_comment (replicate n byte ++ rest) ≡ false
no_comment zero byte rest other none = none
no_comment (suc n) byte rest other none = other

pub no_comments : (spans : List Span) (column row : ℕ) → is_comment (written_from as_plain column row spans) ≡ false
no_comments [] column row = refl
no_comments (s ∷ spans) column row =
    let rest = written_from as_plain (s.column + s.count) s.row spans in
    let live = no_comment s.count 79 rest refl (no_comments spans (s.column + s.count) s.row) in
    let dead = no_comment (s.column - column_at column row s) 46 (replicate s.count 79 ++ rest) refl live in
    no_comment (s.row - row) 10 (replicate (s.column - column_at column row s) 46 ++ (replicate s.count 79 ++ rest)) refl dead

-- ends of rows
row_ended : (front : List Cell) (column row line : ℕ) (rest : List ℕ) → is_comment rest ≡ false → row + 1 < 65536
    → comes front column row (plain_pieces line false (10 ∷ rest)) ≡ comes front 0 (row + 1) (plain_pieces (line + 1) false rest)
row_ended front column row line rest none low =
    rw none (comes-row_end front column row line 1 (plain_pieces (line + 1) false rest) (omega arith) ∙ ap (λ r. comes front 0 r (plain_pieces (line + 1) false rest)) (omega arith))

rows_ended : (n : ℕ) (front : List Cell) (row r line : ℕ) (rest : List ℕ) → is_comment rest ≡ false → row + n ≡ r → r < 65536
    → comes front 0 row (plain_pieces line false (replicate n 10 ++ rest)) ≡ comes front 0 r (plain_pieces (line + n) false rest)
rows_ended zero front row r line rest none down low =
    ap (λ x. comes front 0 x (plain_pieces line false rest)) (omega arith) ∙ ap (λ l. comes front 0 r (plain_pieces l false rest)) (omega arith)
rows_ended (suc n) front row r line rest none down low =
    row_ended front 0 row line (replicate n 10 ++ rest) (no_comment n 10 rest refl none) (omega arith)
    ∙ rows_ended n front (row + 1) r (line + 1) rest none (omega arith) low
    ∙ ap (λ l. comes front 0 r (plain_pieces l false rest)) (omega arith)

rows_written : (n : ℕ) (front : List Cell) (column row r line : ℕ) (rest : List ℕ) → is_comment rest ≡ false → row + n ≡ r → r < 65536
    → comes front column row (plain_pieces line false (replicate n 10 ++ rest)) ≡ comes front (cond (r == row) column 0) r (plain_pieces (line + n) false rest)
rows_written zero front column row r line rest none down low =
    let e : row ≡ r = omega arith in
    rw (same_row r row (sym e)) (ap (λ x. comes front column x (plain_pieces line false rest)) e ∙ ap (λ l. comes front column r (plain_pieces l false rest)) (omega arith))
rows_written (suc n) front column row r line rest none down low =
    rw (later_row r row (omega arith))
    (row_ended front column row line (replicate n 10 ++ rest) (no_comment n 10 rest refl none) (omega arith)
    ∙ rows_ended n front (row + 1) r (line + 1) rest none (omega arith) low
    ∙ ap (λ l. comes front 0 r (plain_pieces l false rest)) (omega arith))

-- dead cells
dead_written : (n : ℕ) (front : List Cell) (column row line : ℕ) (rest : List ℕ) → column + n ≤ 65536
    → comes front column row (plain_pieces line false (replicate n 46 ++ rest)) ≡ comes front (column + n) row (plain_pieces line false rest)
dead_written zero front column row line rest near = ap (λ c. comes front c row (plain_pieces line false rest)) (omega arith)
dead_written (suc n) front column row line rest near =
    dead_passed 1 front column row line (plain_pieces line false (replicate n 46 ++ rest)) (omega arith)
    ∙ dead_written n front (column + 1) row line rest (omega arith)
    ∙ ap (λ c. comes front c row (plain_pieces line false rest)) (omega arith)

-- live cells
alive_written : (n : ℕ) (front : List Cell) (column row line : ℕ) (rest : List ℕ) → length front + n ≤ 65536 → column + n ≤ 65536 → row < 65536
    → comes front column row (plain_pieces line false (replicate n 79 ++ rest)) ≡ comes (front ++ cells_beside 1 row column n) (column + n) row (plain_pieces line false rest)
alive_written zero front column row line rest few near low = rw append-nil (ap (λ c. comes front c row (plain_pieces line false rest)) (omega arith))
alive_written (suc n) front column row line rest few near low =
    let cell : Cell = record { column = column; row = row; state = 1 } in
    let more = length-append front (cell ∷ []) in
    alive_passed 1 front column row line 1 (plain_pieces line false (replicate n 79 ++ rest)) (omega arith) (omega arith) low
    ∙ alive_written n (front ++ cell ∷ []) (column + 1) row line rest (omega arith) (omega arith) low
    ∙ ap (λ cs. comes cs (column + 1 + n) row (plain_pieces line false rest)) (append_assoc front (cell ∷ []) (cells_beside 1 row (column + 1) n))
    ∙ ap (λ c. comes (front ++ (cell ∷ cells_beside 1 row (column + 1) n)) c row (plain_pieces line false rest)) (omega arith)

-- a span that is written as plain text, before what follows it
pub span_of_rows : (s : Span) (front : List Cell) (column row line : ℕ) (rest : List ℕ) → IsAhead 1 column row s → length front + s.count ≤ 65536 → is_comment rest ≡ false
    → comes front column row (plain_pieces line false (replicate (s.row - row) 10 ++ (replicate (s.column - column_at column row s) 46 ++ (replicate s.count 79 ++ rest))))
    ≡ comes (front ++ cells_beside s.state s.row s.column s.count) (s.column + s.count) s.row (plain_pieces (line + (s.row - row)) false rest)
span_of_rows s front column row line rest is few none =
    let begin = column_at column row s in
    let down = is.down in
    let right = is.right in
    let near = is.near in
    let one : 1 ≡ s.state = omega (arith, is.alive, is.known) in
    let live = replicate s.count 79 ++ rest in
    let dead = replicate (s.column - begin) 46 ++ live in
    let later = line + (s.row - row) in
    let no_dead = no_comment (s.column - begin) 46 live refl (no_comment s.count 79 rest refl none) in
    rows_written (s.row - row) front column row s.row line dead no_dead (omega arith) is.low
    ∙ dead_written (s.column - begin) front begin s.row later live (omega arith)
    ∙ ap (λ c. comes front c s.row (plain_pieces later false live)) (omega arith)
    ∙ alive_written s.count front s.column s.row later rest few is.near is.low
    ∙ ap (λ state. comes (front ++ cells_beside state s.row s.column s.count) (s.column + s.count) s.row (plain_pieces later false rest)) one

-- the bytes of rows, some of which have a sign
rows_behind : (n byte : ℕ) (rest : List ℕ) → is_row_byte byte ≡ true → list_all is_row_byte rest ≡ true → list_all is_row_byte (replicate n byte ++ rest) ≡ true
rows_behind zero byte rest is all = all
rows_behind (suc n) byte rest is all = rw is (rows_behind n byte rest is all)

pub all_of_rows : (spans : List Span) (column row : ℕ) → list_all is_row_byte (written_from as_plain column row spans) ≡ true
all_of_rows [] column row = refl
all_of_rows (s ∷ spans) column row =
    let rest = written_from as_plain (s.column + s.count) s.row spans in
    let live = rows_behind s.count 79 rest refl (all_of_rows spans (s.column + s.count) s.row) in
    let dead = rows_behind (s.column - column_at column row s) 46 (replicate s.count 79 ++ rest) refl live in
    rows_behind (s.row - row) 10 (replicate (s.column - column_at column row s) 46 ++ (replicate s.count 79 ++ rest)) refl dead

sign_behind : (n byte : ℕ) (rest : List ℕ) → list_any (λ b. not (b == 10)) rest ≡ true → list_any (λ b. not (b == 10)) (replicate n byte ++ rest) ≡ true
sign_behind zero byte rest some = some
sign_behind (suc n) byte rest some = rw (sign_behind n byte rest some) (or-true (not (byte == 10)))

live_sign : (n : ℕ) (rest : List ℕ) → 0 < n → list_any (λ b. not (b == 10)) (replicate n 79 ++ rest) ≡ true
live_sign zero rest some = absurd (omega arith)
live_sign (suc n) rest some = refl

pub length_beside : (n state row column : ℕ) → length (cells_beside state row column n) ≡ n
length_beside zero state row column = refl
length_beside (suc n) state row column = ap suc (length_beside n state row (column + 1))

pub some_sign : (spans : List Span) (column row : ℕ) → 0 < length (cells_in spans) → list_any (λ b. not (b == 10)) (written_from as_plain column row spans) ≡ true
some_sign [] column row some = absurd (omega arith)
some_sign (s ∷ spans) column row some =
    let rest = written_from as_plain (s.column + s.count) s.row spans in
    let size = length-append (cells_beside s.state s.row s.column s.count) (cells_in spans) in
    let own = length_beside s.count s.state s.row s.column in
    let live : list_any (λ b. not (b == 10)) (replicate s.count 79 ++ rest) ≡ true = elim (cases_lt 0 s.count) [
      | inl here ↦ live_sign s.count rest here
      | inr none ↦ sign_behind s.count 79 rest (some_sign spans (s.column + s.count) s.row (omega arith))
    ] in
    sign_behind (s.row - row) 10 (replicate (s.column - column_at column row s) 46 ++ (replicate s.count 79 ++ rest))
    (sign_behind (s.column - column_at column row s) 46 (replicate s.count 79 ++ rest) live)
