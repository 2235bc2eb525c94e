-- Marks that are put on a board.
use Rattle.std.proofs.Common.{◌≡◌, inl, inr, ◌⊎◌, ℕ, zero, suc, ◌+◌, ◌<◌, ◌≤◌, ◌-◌, min, true, false, ◌&&◌, List, [], ◌∷◌, ◌++◌, length, nat_lt, replicate, refl, sym, ap, ◌∙◌, arith, Option, Result, Ok, Err, append_assoc, length-append}
use Rattle.std.proofs.lemmas.Bool.{cases_Bool}
use Rattle.std.proofs.lemmas.Bool.Decides.{nat_tests}
use Rattle.net_patterns.specs.declared.board.Cell.{Cell}
use Rattle.net_patterns.specs.declared.board.Mark.TheVariants.{Dead, Alive, RowEnd}
use Rattle.net_patterns.specs.declared.fault.PatternFault.{PatternFault}
use Rattle.net_patterns.specs.declared.fault.PatternFault.TheVariants.{TooLarge}
use Rattle.net_patterns.specs.Cells.{Run, Sign, with_front, judged, written_out, runs_in, fault_in}
use Rattle.net_patterns.specs.Steps.{cells_at, comes}

-- two places that are the same, or both beyond the limit
abbrev Alike : ℕ → ℕ → Type 0
Alike a b = (a ≡ b) ⊎ ((65536 ≤ a) × (65536 ≤ b))

alike_next : (a b : ℕ) → Alike a b → Alike (a + 1) (b + 1)
alike_next a b (inl e) = inl (ap (λ n. n + 1) e)
alike_next a b (inr far) = inr (omega arith, omega arith)

far_column : (k a r : ℕ) → 65536 ≤ a → (nat_lt k 65536 && nat_lt a 65536 && nat_lt r 65536) ≡ false
far_column k a r far = grind (arith, nat_tests)

far_row : (k a r : ℕ) → 65536 ≤ r → (nat_lt k 65536 && nat_lt a 65536 && nat_lt r 65536) ≡ false
far_row k a r far = grind (arith, nat_tests)

same_outcome : (signs : List Sign) (k a b r s : ℕ) (fault : Option PatternFault) → Alike a b → Alike r s → judged k (cells_at a r signs) fault ≡ judged k (cells_at b s signs) fault
same_outcome [] k a b r s fault columns rows = refl
same_outcome ((line, Dead) ∷ signs) k a b r s fault columns rows = same_outcome signs k (a + 1) (b + 1) r s fault (alike_next a b columns) rows
same_outcome ((line, RowEnd) ∷ signs) k a b r s fault columns rows = same_outcome signs k 0 0 (r + 1) (s + 1) fault (inl refl) (alike_next r s rows)
same_outcome ((line, Alive state) ∷ signs) k a b r s fault (inr far) rows = rw (far_column k a r far.0, far_column k b s far.1) refl
same_outcome ((line, Alive state) ∷ signs) k a b r s fault (inl e) (inr far) = rw (far_row k a r far.0, far_row k b s far.1) refl
same_outcome ((line, Alive state) ∷ signs) k a b r s fault (inl e) (inl d) = rw (e, d) refl

below_or : (n : ℕ) → (n ≤ 65535) ⊎ (65536 ≤ n)
below_or n = elim (cases_Bool (nat_lt n 65536)) [ inl is ↦ inl (grind (arith, nat_tests)) | inr other ↦ inr (grind (arith, nat_tests)) ]

alike_min : (n : ℕ) → Alike n (min n 65536)
alike_min n = elim (below_or n) [ inl low ↦ inl (omega arith) | inr far ↦ inr (far, omega arith) ]

dead_signs : (n column row line : ℕ) (signs : List Sign) → cells_at column row (replicate n (line, Dead) ++ signs) ≡ cells_at (column + n) row signs
dead_signs zero column row line signs = ap (λ c. cells_at c row signs) (omega arith)
dead_signs (suc n) column row line signs = dead_signs n (column + 1) row line signs ∙ ap (λ c. cells_at c row signs) (omega arith)

row_signs : (n row line : ℕ) (signs : List Sign) → cells_at 0 row (replicate n (line, RowEnd) ++ signs) ≡ cells_at 0 (row + n) signs
row_signs zero row line signs = ap (λ r. cells_at 0 r signs) (omega arith)
row_signs (suc n) row line signs = row_signs n (row + 1) line signs ∙ ap (λ r. cells_at 0 r signs) (omega arith)

-- dead cells
pub comes-dead : (front : List Cell) (column row line count : ℕ) (pieces : List (Result Run PatternFault)) → comes front column row (Ok (record { line = line; count = count; mark = Dead }) ∷ pieces) ≡ comes front (min (column + count) 65536) row pieces
comes-dead front column row line count pieces =
    ap (λ cs. with_front front (judged (length front) cs (fault_in pieces))) (dead_signs count column row line (written_out (runs_in pieces)))
    ∙ ap (with_front front) (same_outcome (written_out (runs_in pieces)) (length front) (column + count) (min (column + count) 65536) row row (fault_in pieces) (alike_min (column + count)) (inl refl))

-- ends of rows
pub comes-row_end : (front : List Cell) (column row line count : ℕ) (pieces : List (Result Run PatternFault)) → 0 < count → comes front column row (Ok (record { line = line; count = count; mark = RowEnd }) ∷ pieces) ≡ comes front 0 (min (row + count) 65536) pieces
comes-row_end front column row line zero pieces some = absurd (omega arith)
comes-row_end front column row line (suc n) pieces some =
    ap (λ cs. with_front front (judged (length front) cs (fault_in pieces))) (row_signs n (row + 1) line (written_out (runs_in pieces)) ∙ ap (λ r. cells_at 0 r (written_out (runs_in pieces))) (omega arith))
    ∙ ap (with_front front) (same_outcome (written_out (runs_in pieces)) (length front) 0 0 (row + suc n) (min (row + suc n) 65536) (fault_in pieces) (inl refl) (alike_min (row + suc n)))

front_more : (front : List Cell) (c : Cell) (r : Result (List Cell) PatternFault) → with_front front (with_front (c ∷ []) r) ≡ with_front (front ++ c ∷ []) r
front_more front c (Ok cs) = ap Ok (sym (append_assoc front (c ∷ []) cs))
front_more front c (Err fault) = refl

length_more : (front : List Cell) (c : Cell) → length (front ++ c ∷ []) ≡ length front + 1
length_more front c = length-append front (c ∷ [])

room : (k a r : ℕ) → k < 65536 → a < 65536 → r < 65536 → (nat_lt k 65536 && nat_lt a 65536 && nat_lt r 65536) ≡ true
room k a r h i j = grind (arith, nat_tests)

-- one live cell, of those of a run
pub comes-alive : (front : List Cell) (column row line state n : ℕ) (pieces : List (Result Run PatternFault)) → length front < 65536 → column < 65536 → row < 65536
    → comes front column row (Ok (record { line = line; count = suc n; mark = Alive state }) ∷ pieces) ≡ comes (front ++ record { column = column; row = row; state = state } ∷ []) (column + 1) row (Ok (record { line = line; count = n; mark = Alive state }) ∷ pieces)
comes-alive front column row line state n pieces few near low =
    let cell : Cell = record { column = column; row = row; state = state } in
    let rest = cells_at (column + 1) row (replicate n (line, Alive state) ++ written_out (runs_in pieces)) in
    rw (room (length front) column row few near low)
    (front_more front cell (judged (length front + 1) rest (fault_in pieces)) ∙ ap (λ k. with_front (front ++ cell ∷ []) (judged k rest (fault_in pieces))) (sym (length_more front cell)))

many : (k a r : ℕ) → 65536 ≤ k → (nat_lt k 65536 && nat_lt a 65536 && nat_lt r 65536) ≡ false
many k a r far = grind (arith, nat_tests)

-- the next of the live cells of a run
pub comes-one_less : (front : List Cell) (column row line state count counter : ℕ) (pieces : List (Result Run PatternFault)) → counter < count
    → comes front column row (Ok (record { line = line; count = count - counter; mark = Alive state }) ∷ pieces) ≡ comes front column row (Ok (record { line = line; count = suc (count - (counter + 1)); mark = Alive state }) ∷ pieces)
comes-one_less front column row line state count counter pieces less =
    let e : count - counter ≡ suc (count - (counter + 1)) = omega arith in
    ap (λ n. comes front column row (Ok (record { line = line; count = n; mark = Alive state }) ∷ pieces)) e
