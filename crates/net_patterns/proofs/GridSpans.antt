-- The spans of a grid's values.
use Rattle.std.proofs.Common.{◌≡◌, inl, inr, ℕ, zero, suc, ◌+◌, ◌*◌, ◌/◌, ◌%◌, ◌<◌, ◌≤◌, ◌==◌, ◌&&◌, true, false, List, [], ◌∷◌, ◌++◌, length, nat_lt, nat_le, refl, sym, ap, ◌∙◌, arith, None, append_assoc}
use Rattle.std.specs.List.{AllByRecursion, list_all}
use Rattle.std.proofs.Math.Nat.{div-le_self, le-div_iff_mul-le, mod-lt}
use Rattle.std.proofs.lemmas.Nat.{div-add-mod'}
use Rattle.std.proofs.lemmas.Bool.{and_parts, cases_Bool}
use Rattle.std.proofs.lemmas.Bool.Decides.{Decides-eqb, nat_tests}
use Rattle.net_patterns.specs.declared.board.Cell.{Cell}
use Rattle.net_patterns.specs.declared.span.Span.{Span}
use Rattle.net_patterns.specs.OnGrids.{cell_at, first_above, goes_on, grid_cells, longer, no_span, span_at, spans_from}
use Rattle.net_patterns.specs.Written.{AreAhead, AreInOrder, IsAhead, cells_beside, cells_in, column_at}

-- one more cell of a span
cells_next : (n state row column : ℕ) → cells_beside state row column (suc n) ≡ cells_beside state row column n ++ record { column = column + n; row = row; state = state } ∷ []
cells_next zero state row column = ap (λ c. cells_beside state row c 1) (omega arith)
cells_next (suc n) state row column =
    let cell : Cell = record { column = column; row = row; state = state } in
    let e : column + 1 + n ≡ column + suc n = omega arith in
    ap (λ cs. cell ∷ cs) (
    cells_next n state row (column + 1) ∙ ap (λ c. cells_beside state row (column + 1) n ++ record { column = c; row = row; state = state } ∷ []) e
    )

cells_longer : (n state row column : ℕ) → cells_beside state row column (n + 1) ≡ cells_beside state row column n ++ record { column = column + n; row = row; state = state } ∷ []
cells_longer n state row column =
    let e : n + 1 ≡ suc n = omega arith in
    ap (cells_beside state row column) e ∙ cells_next n state row column

-- what a live cell says that goes on with a span
record GoesOn (width node value : ℕ) (s : Span) : Type 0 where
  same_row : node / width ≡ s.row
  next : node % width ≡ s.column + s.count
  same_state : value ≡ s.state

going_on : (width node value : ℕ) (s : Span) → goes_on width node value s ≡ true → GoesOn width node value s
going_on width node value s is =
    let parts = and_parts (node / width == s.row) (node % width == s.column + s.count && value == s.state) is in
    let more = and_parts (node % width == s.column + s.count) (value == s.state) parts.1 in
    record { same_row = grind (arith, nat_tests); next = grind (arith, nat_tests); same_state = grind (arith, nat_tests) }

positive : (value : ℕ) → (value == 0) ≡ false → nat_lt 0 value ≡ true
positive value is = grind (arith, nat_tests)

none : (value : ℕ) → (value == 0) ≡ true → nat_lt 0 value ≡ false
none value is = grind (arith, nat_tests)

-- the cells of the spans are those of the values
pub cells_of_spans : (values : List ℕ) (width node : ℕ) (s : Span) → cells_in (spans_from width node s values) ≡ cells_beside s.state s.row s.column s.count ++ grid_cells width node values
cells_of_spans [] width node s = refl
cells_of_spans (value ∷ values) width node s =
    elim (cases_Bool (value == 0)) [
      | inl dead ↦ rw (dead, none value dead) (cells_of_spans values width (node + 1) s)
      | inr alive ↦
          elim (cases_Bool (goes_on width node value s)) [
            | inl on ↦
                (let is = going_on width node value s on in
                let cell : Cell = record { column = s.column + s.count; row = s.row; state = s.state } in
                let e : cell ≡ cell_at width (node, value) = rw (is.same_row, is.next, is.same_state) refl in
                rw (alive, on, positive value alive)
                (cells_of_spans values width (node + 1) (longer s)
                ∙ ap (λ cs. cs ++ grid_cells width (node + 1) values) (cells_longer s.count s.state s.row s.column)
                ∙ append_assoc (cells_beside s.state s.row s.column s.count) (cell ∷ []) (grid_cells width (node + 1) values)
                ∙ ap (λ c. cells_beside s.state s.row s.column s.count ++ (c ∷ grid_cells width (node + 1) values)) e))
            | inr other ↦
                rw (alive, other, positive value alive)
                (ap (λ cs. cells_beside s.state s.row s.column s.count ++ cs) (cells_of_spans values width (node + 1) (span_at width node value)))
          ]
    ]

-- a span ends in a row of the grid, before a node
record Ends (width node : ℕ) (s : Span) : Type 0 where
  inside : s.column + s.count ≤ width
  before : s.row * width + (s.column + s.count) ≤ node

-- where a node stands
record Stands (width node row column : ℕ) : Type 0 where
  sum : row * width + column ≡ node
  below : column < width

stands : (width node : ℕ) → 1 ≤ width → Stands width node (node / width) (node % width)
stands width node some = record { sum = div-add-mod' node width; below = mod-lt node (omega arith) }

row_reached : (width node row end : ℕ) → 1 ≤ width → row * width + end ≤ node → row ≤ node / width
row_reached width node row end some is = (le-div_iff_mul-le {k = width} {x = row} {y = node} (omega arith)).1 (omega (arith, is))

small_row : (width node : ℕ) → node / width ≤ node
small_row width node = div-le_self node width

right_of : (product column end node : ℕ) → product + column ≡ node → product + end ≤ node → end ≤ column
right_of product column end node sum before = omega (arith, sum, before)

new_right : (width node value : ℕ) (s : Span) → Ends width node s → node / width * width + node % width ≡ node → column_at (s.column + s.count) s.row (span_at width node value) ≤ node % width
new_right width node value s ends sum =
    elim (cases_Bool (node / width == s.row)) [
      | inl same ↦
          (let e : node / width ≡ s.row = (Decides-eqb (node / width) s.row).0 same in
          rw same (right_of (s.row * width) (node % width) (s.column + s.count) node (rw e at sum) ends.before))
      | inr other ↦ rw other (omega arith)
    ]

-- a new span stands ahead of the end of the one before
new_ahead : (most width node value : ℕ) (s : Span) → 1 ≤ width → node < 65536 → 1 ≤ value → value ≤ most → Ends width node s → IsAhead most (s.column + s.count) s.row (span_at width node value)
new_ahead most width node value s some few alive known ends =
    let is = stands width node some in
    let down = row_reached width node s.row (s.column + s.count) some ends.before in
    let sum = is.sum in
    let low = small_row width node in
    let near : node % width ≤ node = omega (arith, sum) in
    record {
      alive = alive;
      known = known;
      down = down;
      right = new_right width node value s ends sum;
      low = omega (arith, low, few);
      near = omega (arith, near, few);
    }

-- and ends before the next node
new_ends : (width node value : ℕ) → 1 ≤ width → Ends width (node + 1) (span_at width node value)
new_ends width node value some =
    let is = stands width node some in
    let sum = is.sum in
    let below = is.below in
    record { inside = omega (arith, below); before = omega (arith, sum) }

-- a span that goes on ends before the next node
longer_ends : (width node value : ℕ) (s : Span) → 1 ≤ width → GoesOn width node value s → Ends width (node + 1) (longer s)
longer_ends width node value s some is =
    let at = stands width node some in
    let below = at.below in
    let next = is.next in
    let sum : s.row * width + (s.column + s.count) ≡ node = ap (λ r. r * width + (s.column + s.count)) (sym is.same_row) ∙ ap (λ c. node / width * width + c) (sym next) ∙ at.sum in
    record { inside = omega (arith, below, next); before = omega (arith, sum) }

longer_ahead : (most width node value column row : ℕ) (s : Span) → 1 ≤ width → node < 65536 → GoesOn width node value s → IsAhead most column row s → IsAhead most column row (longer s)
longer_ahead most width node value column row s some few is ahead =
    let sum = (stands width node some).sum in
    let next = is.next in
    let near : node % width ≤ node = omega (arith, sum) in
    record {
      alive = ahead.alive;
      known = ahead.known;
      down = ahead.down;
      right = ahead.right;
      low = ahead.low;
      near = omega (arith, near, few, next);
    }

later : (width node : ℕ) (s : Span) → Ends width node s → Ends width (node + 1) s
later width node s ends = let before = ends.before in record { inside = ends.inside; before = omega (arith, before) }

some_value : (value : ℕ) → (value == 0) ≡ false → 1 ≤ value
some_value value is = grind (arith, nat_tests)

-- the spans of values stand in reading order
spans_ahead : (values : List ℕ) (most width node column row : ℕ) (s : Span) → 1 ≤ width → node + length values ≤ 65536 → AllByRecursion (λ v. v ≤ most) values → IsAhead most column row s → Ends width node s
    → AreAhead most column row (spans_from width node s values)
spans_ahead [] most width node column row s some few all ahead ends = (ahead, tt)
spans_ahead (value ∷ values) most width node column row s some few all ahead ends =
    let below : node < 65536 = omega arith in
    let rest : node + 1 + length values ≤ 65536 = omega arith in
    elim (cases_Bool (value == 0)) [
      | inl dead ↦ rw dead (spans_ahead values most width (node + 1) column row s some rest all.1 ahead (later width node s ends))
      | inr alive ↦
          elim (cases_Bool (goes_on width node value s)) [
            | inl on ↦
                (let is = going_on width node value s on in
                rw (alive, on)
                (spans_ahead values most width (node + 1) column row (longer s) some rest all.1 (longer_ahead most width node value column row s some below is ahead) (longer_ends width node value s some is)))
            | inr other ↦
                rw (alive, other)
                ((
                  ahead,
                  spans_ahead values most width (node + 1) (s.column + s.count) s.row (span_at width node value) some rest all.1 (new_ahead most width node value s some below (some_value value alive) all.0 ends) (new_ends width node value some),
                ))
          ]
    ]

-- there are no more cells than values
length_cells : (values : List ℕ) (width node : ℕ) → length (grid_cells width node values) ≤ length values
length_cells [] width node = omega arith
length_cells (value ∷ values) width node =
    let rest = length_cells values width (node + 1) in
    elim (cases_Bool (nat_lt 0 value)) [ inl alive ↦ rw alive (omega (arith, rest)) | inr dead ↦ rw dead (omega (arith, rest)) ]

pub in_order : (values : List ℕ) (most width : ℕ) → 1 ≤ width → 1 ≤ most → length values ≤ 65536 → AllByRecursion (λ v. v ≤ most) values → AreInOrder most (spans_from width 0 no_span values)
in_order values most width some alive few all =
    let ahead : IsAhead most 0 0 no_span = record { alive = omega arith; known = alive; down = omega arith; right = omega arith; low = omega arith; near = omega arith } in
    let ends : Ends width 0 no_span = record { inside = omega arith; before = omega arith } in
    let size = length_cells values width 0 in (
      spans_ahead values most width 0 0 0 no_span some (omega (arith, few)) all ahead ends,
      rw (cells_of_spans values width 0 no_span) (omega (arith, size, few)),
    )

-- values none of which is above another
not_above : (most value : ℕ) → nat_lt most value ≡ false → value ≤ most
not_above most value is = grind (arith, nat_tests)

pub none_above : (values : List ℕ) (most node : ℕ) → first_above most node values ≡ None → AllByRecursion (λ v. v ≤ most) values
none_above [] most node is = tt
none_above (value ∷ values) most node is =
    elim (cases_Bool (nat_lt most value)) [
      | inl above ↦ absurd (let no = rw above at is in cc)
      | inr other ↦ (not_above most value other, none_above values most (node + 1) (rw other at is))
    ]

known_byte : (most value : ℕ) → most ≤ 255 → value ≤ most → nat_le value 255 ≡ true
known_byte most value few is = grind (arith, nat_tests)

pub all_bytes : (values : List ℕ) (most : ℕ) → most ≤ 255 → AllByRecursion (λ v. v ≤ most) values → list_all (λ v. nat_le v 255) values ≡ true
all_bytes [] most few all = refl
all_bytes (value ∷ values) most few all = rw (known_byte most value few all.0) (all_bytes values most few all.1)

one_or_none : (value : ℕ) → nat_le value 1 ≡ true → value ≤ 1
one_or_none value is = grind (arith, nat_tests)

pub all_of_two : (values : List ℕ) → list_all (λ v. nat_le v 1) values ≡ true → AllByRecursion (λ v. v ≤ 1) values
all_of_two [] all = tt
all_of_two (value ∷ values) all =
    let parts = and_parts (nat_le value 1) (list_all (λ v. nat_le v 1) values) all in
    (one_or_none value parts.0, all_of_two values parts.1)
