-- Marks that lead from one span of live cells to the next.
use Rattle.std.proofs.Common.{◌≡◌, ℕ, zero, suc, ◌+◌, ◌≤◌, ◌<◌, ◌==◌, List, [], ◌∷◌, ◌++◌, length, sym, ap, ◌∙◌, arith, cond, Result, Ok, append_assoc, append-nil, length-append, true, false}
use Rattle.std.proofs.lemmas.Bool.Decides.{nat_tests}
use Rattle.net_patterns.specs.declared.board.Cell.{Cell}
use Rattle.net_patterns.specs.declared.board.Mark.TheVariants.{Dead, Alive, RowEnd}
use Rattle.net_patterns.specs.declared.fault.PatternFault.{PatternFault}
use Rattle.net_patterns.specs.Cells.{Run}
use Rattle.net_patterns.specs.Steps.{comes}
use Rattle.net_patterns.specs.Written.{cells_beside}
use Rattle.net_patterns.proofs.BoardSteps.{comes-dead, comes-row_end, comes-alive}

pub same_row : (r row : ℕ) → r ≡ row → (r == row) ≡ true
same_row r row same = grind (arith, nat_tests)

pub later_row : (r row : ℕ) → row < r → (r == row) ≡ false
later_row r row later = grind (arith, nat_tests)

-- ends of rows, down to a row
pub rows_passed : (n : ℕ) (front : List Cell) (column row r line : ℕ) (pieces : List (Result Run PatternFault)) → row + n ≡ r → r < 65536
    → comes front column row (Ok (record { line = line; count = n; mark = RowEnd }) ∷ pieces) ≡ comes front (cond (r == row) column 0) r pieces
rows_passed zero front column row r line pieces down low =
    let e : row ≡ r = omega arith in rw (same_row r row (sym e)) (ap (λ x. comes front column x pieces) e)
rows_passed (suc n) front column row r line pieces down low =
    rw (later_row r row (omega arith)) (comes-row_end front column row line (suc n) pieces (omega arith) ∙ ap (λ x. comes front 0 x pieces) (omega arith))

-- dead cells
pub dead_passed : (n : ℕ) (front : List Cell) (column row line : ℕ) (pieces : List (Result Run PatternFault)) → column + n ≤ 65536
    → comes front column row (Ok (record { line = line; count = n; mark = Dead }) ∷ pieces) ≡ comes front (column + n) row pieces
dead_passed n front column row line pieces near = comes-dead front column row line n pieces ∙ ap (λ c. comes front c row pieces) (omega arith)

-- live cells
pub alive_passed : (n : ℕ) (front : List Cell) (column row line state : ℕ) (pieces : List (Result Run PatternFault)) → length front + n ≤ 65536 → column + n ≤ 65536 → row < 65536
    → comes front column row (Ok (record { line = line; count = n; mark = Alive state }) ∷ pieces) ≡ comes (front ++ cells_beside state row column n) (column + n) row pieces
alive_passed zero front column row line state pieces few near low = rw append-nil (ap (λ c. comes front c row pieces) (omega arith))
alive_passed (suc n) front column row line state pieces few near low =
    let cell : Cell = record { column = column; row = row; state = state } in
    let more = length-append front (cell ∷ []) in
    comes-alive front column row line state n pieces (omega arith) (omega arith) low
    ∙ alive_passed n (front ++ cell ∷ []) (column + 1) row line state pieces (omega arith) (omega arith) low
    ∙ ap (λ cs. comes cs (column + 1 + n) row pieces) (append_assoc front (cell ∷ []) (cells_beside state row (column + 1) n))
    ∙ ap (λ c. comes (front ++ (cell ∷ cells_beside state row (column + 1) n)) c row pieces) (omega arith)
