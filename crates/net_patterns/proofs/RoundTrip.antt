-- Patterns that are written are read back.
use Rattle.std.proofs.Common.{◌≡◌, ℕ, ◌+◌, ◌-◌, ◌<◌, ◌≤◌, true, false, List, [], ◌∷◌, ◌++◌, length, refl, sym, ap, ◌∙◌, arith, None, Ok, append_assoc, length-append}
use Rattle.std.specs.List.{list_all}
use Rattle.net_patterns.specs.declared.board.Cell.{Cell}
use Rattle.net_patterns.specs.declared.board.Mark.TheVariants.{Dead, Alive}
use Rattle.net_patterns.specs.declared.span.Span.{Span}
use Rattle.net_patterns.specs.Cells.{pattern_of}
use Rattle.net_patterns.specs.RunSteps.{pattern_in, pieces_from}
use Rattle.net_patterns.specs.Steps.{comes}
use Rattle.net_patterns.specs.Texts.{plain_pieces}
use Rattle.net_patterns.specs.Written.{Frame, IsFrame, cells_beside, cells_in, AreAhead, AreInOrder, IsLine, is_gap, state_tag, with_frame, written_from, written_as_runs, written_as_states, written_as_plain, as_tags, as_plain}
use Rattle.net_patterns.proofs.FirstLines.{runs_behind, rows_alone, rows_behind}
use Rattle.net_patterns.proofs.PlainTexts.{all_of_rows, length_beside, no_comments, some_sign, span_of_rows}
use Rattle.net_patterns.proofs.RowCells.{comes-begin}
use Rattle.net_patterns.proofs.RunTexts.{IsTag, dead_tag, live_tag, point_tag, span_of_runs}
use Rattle.net_patterns.proofs.StateTags.{state_tag_read}

runs_read : (dead : List ℕ) (alive : ℕ → List ℕ) (most : ℕ) → IsTag dead Dead → ((state : ℕ) → 1 ≤ state → state ≤ most → IsTag (alive state) (Alive state)) → (spans : List Span) (ends gap behind : List ℕ) → list_all is_gap ends ≡ true → list_all is_gap gap ≡ true
    → (front : List Cell) (column row line : ℕ) → AreAhead most column row spans → length front + length (cells_in spans) ≤ 65536
    → comes front column row (pieces_from line None 0 (written_from (as_tags dead alive ends gap behind) column row spans)) ≡ Ok (front ++ cells_in spans)
runs_read dead alive most is_dead is_alive [] ends gap behind all passed front column row line ahead few = refl
runs_read dead alive most is_dead is_alive (s ∷ spans) ends gap behind all passed front column row line ahead few =
    let own = cells_beside s.state s.row s.column s.count in
    let size = length-append own (cells_in spans) in
    let own_size = length_beside s.count s.state s.row s.column in
    let more = length-append front own in
    let live = is_alive s.state ahead.0.alive ahead.0.known in
    let first = span_of_runs dead (alive s.state) s is_dead live ends gap all passed most front column row line (written_from (as_tags dead alive ends gap behind) (s.column + s.count) s.row spans) ahead.0 (omega arith) in
    first.1
    ∙ runs_read dead alive most is_dead is_alive spans ends gap behind all passed (front ++ own) (s.column + s.count) s.row first.0 ahead.1 (omega arith)
    ∙ ap Ok (append_assoc front own (cells_in spans))

reads_tags : (dead : List ℕ) (alive : ℕ → List ℕ) (most : ℕ) → IsTag dead Dead → ((state : ℕ) → 1 ≤ state → state ≤ most → IsTag (alive state) (Alive state)) → (f : Frame) (spans : List Span) → IsFrame f → AreInOrder most spans
    → pattern_in (with_frame f (written_from (as_tags dead alive f.ends f.gap f.behind) 0 0 spans)) ≡ Ok (cells_in spans)
reads_tags dead alive most is_dead is_alive f spans is order =
    let runs = written_from (as_tags dead alive f.ends f.gap f.behind) 0 0 spans in
    let line = 1 + length f.comments + 1 in
    runs_behind f.comments f.header runs is.comments is.header
    ∙ sym (comes-begin (pieces_from line None 0 runs))
    ∙ runs_read dead alive most is_dead is_alive spans f.ends f.gap f.behind is.ends is.gap [] 0 0 line order.0 (omega (arith, order.1))

state_one : (state : ℕ) → 1 ≤ state → state ≤ 1 → IsTag (111 ∷ []) (Alive state)
state_one state some few =
    let one : 1 ≡ state = omega (arith, some, few) in
    rw one at live_tag

pub reads_runs : (f : Frame) (spans : List Span) → IsFrame f → AreInOrder 1 spans → pattern_in (written_as_runs f spans) ≡ Ok (cells_in spans)
reads_runs f spans is order = reads_tags (98 ∷ []) (λ state. 111 ∷ []) 1 dead_tag state_one f spans is order

pub reads_states : (f : Frame) (spans : List Span) → IsFrame f → AreInOrder 255 spans → pattern_in (written_as_states f spans) ≡ Ok (cells_in spans)
reads_states f spans is order = reads_tags (46 ∷ []) state_tag 255 point_tag state_tag_read f spans is order

rows_read : (spans : List Span) (front : List Cell) (column row line : ℕ) → AreAhead 1 column row spans → length front + length (cells_in spans) ≤ 65536
    → comes front column row (plain_pieces line false (written_from as_plain column row spans)) ≡ Ok (front ++ cells_in spans)
rows_read [] front column row line ahead few = refl
rows_read (s ∷ spans) front column row line ahead few =
    let own = cells_beside s.state s.row s.column s.count in
    let size = length-append own (cells_in spans) in
    let own_size = length_beside s.count s.state s.row s.column in
    let more = length-append front own in
    span_of_rows s front column row line (written_from as_plain (s.column + s.count) s.row spans) ahead.0 (omega arith) (no_comments spans (s.column + s.count) s.row)
    ∙ rows_read spans (front ++ own) (s.column + s.count) s.row (line + (s.row - row)) ahead.1 (omega arith)
    ∙ ap Ok (append_assoc front own (cells_in spans))

pub reads_plain : (comment : List ℕ) (spans : List Span) → IsLine 33 comment → AreInOrder 1 spans → pattern_in (written_as_plain comment spans) ≡ Ok (cells_in spans)
reads_plain comment spans is order =
    let rows = written_from as_plain 0 0 spans in
    rows_behind comment rows is
    ∙ ap (λ none. pattern_of (plain_pieces 2 none rows)) (no_comments spans 0 0)
    ∙ sym (comes-begin (plain_pieces 2 false rows))
    ∙ rows_read spans [] 0 0 2 order.0 (omega (arith, order.1))

pub reads_rows : (spans : List Span) → AreInOrder 1 spans → 0 < length (cells_in spans) → pattern_in (written_from as_plain 0 0 spans) ≡ Ok (cells_in spans)
reads_rows spans order some =
    let rows = written_from as_plain 0 0 spans in
    rows_alone rows (all_of_rows spans 0 0) (some_sign spans 0 0 some)
    ∙ ap (λ none. pattern_of (plain_pieces 1 none rows)) (no_comments spans 0 0)
    ∙ sym (comes-begin (plain_pieces 1 false rows))
    ∙ rows_read spans [] 0 0 1 order.0 (omega (arith, order.1))
