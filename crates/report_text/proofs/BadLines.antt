-- The first line of a text that no report has there.
use Rattle.std.proofs.Common.{◌≡◌, ℕ, ◌+◌, ◌-◌, ◌<◌, ◌≤◌, ◌^◌, List, [], ◌∷◌, ◌++◌, length, get_or, take, drop, replicate, refl, sym, ap, ◌∙◌, arith, length-append, All, Some, None, slice_get, inl, inr}
use Rattle.std.proofs.lemmas.Bool.{cases_lt}
use Rattle.std.proofs.lemmas.List.{length-replicate, get_or-replicate, get_or_past, take-append-drop, length-take-le, length-drop}
use Rattle.std.proofs.lemmas.List.Elements.{All-append, All-replicate, All-take, All-drop}
use Rattle.rule_check.specs.declared.state.State.{State}
use Rattle.rule_check.specs.Value.{names_of}
use Rattle.rounds_plan.specs.Configs.{Configuration, blank}
use Rattle.rounds_plan.specs.Plans.{PlanView}
use Rattle.report_text.specs.Front.{IsFront, Anything}
use Rattle.report_text.specs.Lines.{lines_of}
use Rattle.report_text.specs.Report.{node_line, node_lines, round_line, report_text}
use Rattle.report_text.specs.ReadReport.{IsStateOf, HasShape, FitsAt, IsFirstBadLine}
use Rattle.report_text.specs.NodeLines.{StopsAtLine}
use Rattle.report_text.proofs.Lines.{IsInLine, first_line, no_line, get_front, get_behind}
use Rattle.report_text.proofs.ReportLines.{round_split, node_split, lines_from, count_lines, report_split, lines_append}
use Rattle.rounds_plan.proofs.Names.{name_count}

-- without a round's line the first line is bad
pub bad_round : (p : PlanView) (text : List ℕ) → IsFront round_line (λ t. t < 2 ^ 32) Anything text None → IsFirstBadLine p text 1
bad_round p text none = record {
  counted = omega arith;
  before = λ place early. absurd (omega arith);
  bad = λ fits.
      let c = fits.other in
      let split = round_split c.rounds (node_lines (names_of p.program) 0 c.states) fits.shape.round in
      let first : slice_get (lines_of text) 0 ≡ Some (round_line c.rounds) = sym fits.same ∙ ap (λ ls. slice_get ls 0) split in
      let begins = first_line text (round_line c.rounds) first in
      none c.rounds begins.rest fits.shape.round tt begins.cut;
}

blank_words : (k : ℕ) → get_or {A = ℕ} (replicate {A = ℕ} 8 0) k 0 ≡ 0
blank_words k = elim (cases_lt k 8) [ inl near ↦ get_or-replicate {A = ℕ} 8 k 0 0 near | inr far ↦ get_or_past {X = ℕ} (replicate {A = ℕ} 8 0) k 0 (omega (arith, length-replicate {A = ℕ} 8 0)) ]

pub blank_fits : (fields : ℕ) → IsStateOf fields blank
blank_fits fields = record {
  count = length-replicate {A = ℕ} 8 0;
  small = All-replicate {X = ℕ} (λ w. w < 2 ^ 32) 8 0 (omega arith);
  plain = λ k far. blank_words k;
}

-- a round's line fits as the first one
pub good_round : (p : PlanView) (text lines : List ℕ) (t : ℕ) → t < 2 ^ 32 → text ≡ round_line t ++ lines → IsFirstBadLine p text 1 → ⊥
good_round p text lines t small cut first =
    let states = replicate (length p.network) blank in
    first.bad (record {
      other = record { rounds = t; fields = length p.program.fields; states = states };
      shape = record {
        round = small;
        fields = refl;
        nodes = length-replicate (length p.network) blank;
        states = All-replicate (IsStateOf (length p.program.fields)) (length p.network) blank (blank_fits (length p.program.fields));
      };
      same =
          ap (λ ls. slice_get ls 0) (round_split t (node_lines (names_of p.program) 0 states) small)
          ∙ sym (ap (λ ls. slice_get ls 0) (ap lines_of cut ∙ round_split t lines small));
    })

module _ (p : PlanView) (few : length p.program.fields ≤ 8) (narrow : length p.network ≤ 2 ^ 32) (plain : All IsInLine (names_of p.program)) where
  -- the line after the good ones is that of no node
  no_node : (lines : List ℕ) (number : ℕ) (stop : StopsAtLine (names_of p.program) (length p.program.fields) (length p.network) lines number) (tail : List State) → length stop.good + length tail ≡ length p.network → All (IsStateOf (length p.program.fields)) tail → slice_get (lines_of (node_lines (names_of p.program) (length stop.good) tail)) 0 ≡ slice_get (lines_of stop.rest) 0 → ⊥
  no_node lines number stop [] size fits same = stop.too_many (omega arith) (no_line stop.rest (sym same))
  no_node lines number stop (s ∷ tail) size fits same =
      let names = names_of p.program in
      let k = length stop.good in
      let fit = fits 0 blank (omega arith) in
      let split = node_split names (length p.program.fields) (name_count p.program) few plain k s (node_lines names (k + 1) tail) (omega arith) fit in
      let begins = first_line stop.rest (node_line names k s) (sym same ∙ ap (λ ls. slice_get ls 0) split) in
      stop.missing (omega arith) s begins.rest fit begins.cut

  -- the lines of a report whose first nodes have these states
  front_lines : (c : Configuration) (front tail : List State) (k : ℕ) → HasShape p c → All (IsStateOf (length p.program.fields)) front → c.states ≡ front ++ tail → k ≡ length front → lines_of (report_text (names_of p.program) c) ≡ (round_line c.rounds ∷ lines_from (names_of p.program) 0 front) ++ lines_of (node_lines (names_of p.program) k tail)
  front_lines c front tail k shape fits whole at =
      let names = names_of p.program in
      let size : length c.states ≡ length front + length tail = ap length whole ∙ length-append front tail in
      ap (λ states. lines_of (round_line c.rounds ++ node_lines names 0 states)) whole
      ∙ ap (λ t. lines_of (round_line c.rounds ++ t)) (lines_append names 0 k front tail (omega arith))
      ∙ report_split names (length p.program.fields) (name_count p.program) few plain c.rounds front (node_lines names k tail) shape.round (omega (arith, size, shape.nodes)) fits

  module _ (text lines : List ℕ) (t number : ℕ) (small : t < 2 ^ 32) (cut : text ≡ round_line t ++ lines) (stop : StopsAtLine (names_of p.program) (length p.program.fields) (length p.network) lines number) where
    good_lines : lines_of text ≡ (round_line t ∷ lines_from (names_of p.program) 0 stop.good) ++ lines_of stop.rest
    good_lines =
        ap lines_of (cut ∙ ap (λ ls. round_line t ++ ls) stop.cut)
        ∙ report_split (names_of p.program) (length p.program.fields) (name_count p.program) few plain t stop.good stop.rest small (omega (arith, stop.few)) stop.fit

    -- a report with the good lines has the shape
    like_shape : HasShape p (record { rounds = t; fields = length p.program.fields; states = stop.good ++ replicate (length p.network - length stop.good) blank })
    like_shape = record {
      round = small;
      fields = refl;
      nodes = let pads : length (replicate (length p.network - length stop.good) blank) ≡ length p.network - length stop.good = length-replicate (length p.network - length stop.good) blank in omega (arith, pads, length-append stop.good (replicate (length p.network - length stop.good) blank), stop.few);
      states = All-append (IsStateOf (length p.program.fields)) stop.good (replicate (length p.network - length stop.good) blank) stop.fit (All-replicate (IsStateOf (length p.program.fields)) (length p.network - length stop.good) blank (blank_fits (length p.program.fields)));
    }

    fits_before : (place : ℕ) → place + 1 < number → FitsAt p place (slice_get (lines_of text) place)
    fits_before place early =
        let names = names_of p.program in
        let head = round_line t ∷ lines_from names 0 stop.good in
        let pads = replicate (length p.network - length stop.good) blank in
        let inside : place < length head = omega (arith, count_lines names 0 stop.good, stop.place) in
        let its = front_lines (record { rounds = t; fields = length p.program.fields; states = stop.good ++ pads }) stop.good pads (length stop.good) like_shape stop.fit refl refl in
        record {
          other = record { rounds = t; fields = length p.program.fields; states = stop.good ++ pads };
          shape = like_shape;
          same =
              ap (λ ls. slice_get ls place) its ∙ get_front head (lines_of (node_lines names (length stop.good) pads)) place inside
              ∙ sym (ap (λ ls. slice_get ls place) good_lines ∙ get_front head (lines_of stop.rest) place inside);
        }

    unfit : FitsAt p (number - 1) (slice_get (lines_of text) (number - 1)) → ⊥
    unfit fits =
        let names = names_of p.program in
        let k = length stop.good in
        let c = fits.other in
        let front = take k c.states in
        let tail = drop k c.states in
        let enough : k ≤ length c.states = omega (arith, stop.few, fits.shape.nodes) in
        let size : length front ≡ k = length-take-le k c.states enough in
        let whole : front ++ tail ≡ c.states = take-append-drop k c.states in
        let states = fits.shape.states in
        let its = front_lines c front tail k fits.shape (All-take (IsStateOf (length p.program.fields)) k c.states states) (sym whole) (sym size) in
        let mine : number - 1 ≡ length (round_line t ∷ lines_from names 0 stop.good) = omega (arith, count_lines names 0 stop.good, stop.place) in
        let other : number - 1 ≡ length (round_line c.rounds ∷ lines_from names 0 front) = omega (arith, count_lines names 0 front, stop.place, size) in
        let rest : k + length tail ≡ length p.network = omega (arith, length-drop k c.states, fits.shape.nodes, enough) in
        no_node lines number stop tail rest (All-drop (IsStateOf (length p.program.fields)) k c.states states)
        (sym (ap (λ ls. slice_get ls (number - 1)) its ∙ get_behind (round_line c.rounds ∷ lines_from names 0 front) (lines_of (node_lines names k tail)) (number - 1) other)
        ∙ fits.same
        ∙ ap (λ ls. slice_get ls (number - 1)) good_lines ∙ get_behind (round_line t ∷ lines_from names 0 stop.good) (lines_of stop.rest) (number - 1) mine)

    -- the line after the good ones is the first bad one
    pub first_bad : IsFirstBadLine p text number
    first_bad = record { counted = omega (arith, stop.place); before = fits_before; bad = unfit }
