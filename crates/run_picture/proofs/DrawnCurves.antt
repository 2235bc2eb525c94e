-- A text that is made of counted rounds is the picture of their curves.
use Rattle.std.proofs.Common.{◌≡◌, ◌<◌, ◌≤◌, ◌^◌, ℕ, List, Bool, true, false, if◌then◌else◌, arith, length, nat_le, nat_lt, refl}
use Rattle.std.proofs.lemmas.Bool.Decides.{nat_tests}
use Rattle.std.specs.Option.{option_or}
use Rattle.std.specs.Prelude.{Option, Some, None}
use Rattle.rounds_plan.specs.Configs.{most_rounds}
use Rattle.rounds_plan.specs.Plans.{PlanView}
use Rattle.run_counts.specs.Rows.{AreValues, RowView}
use Rattle.run_watch.specs.Spans.{count_of}
use Rattle.run_picture.specs.declared.drawing.Drawing.{Drawing}
use Rattle.run_picture.specs.declared.fault.PictureFault.{PictureFault}
use Rattle.run_picture.specs.declared.fault.PictureFault.TheVariants.{NoField, OneRound, RoundsBelowStart, TooManyPoints, TooManyRounds}
use Rattle.run_picture.specs.Curves.{AreFieldRows, IsCountPicture, curves_refusal, most_curves, most_points, plotted, states_drawn}
use Rattle.run_picture.specs.Frames.{drawing_refusal}
use Rattle.run_picture.specs.Keys.{key_of}
use Rattle.run_picture.specs.Ticks.{ticks}
use Rattle.run_picture.proofs.AxisTicks.{are_ticks}
use Rattle.run_picture.proofs.OneKey.{is_key}

first_none : (a b : Option PictureFault) → option_or a b ≡ None → a ≡ None
first_none None b none = refl
first_none (Some fault) b none = absurd (let e : Some fault ≡ None = none in cc)

not_over : (b : Bool) (rest : Option PictureFault) → (if b then Some TooManyRounds else rest) ≡ None → b ≡ false
not_over true rest none = absurd (let e : Some TooManyRounds ≡ None = none in cc)
not_over false rest none = refl

last_round : (p : PlanView) (drawing : Drawing) → curves_refusal p drawing ≡ None → drawing.span.now.last ≤ most_rounds
last_round p drawing fits =
    let span = drawing.span.now in
    let field = drawing.colouring.field in
    let alone = first_none (drawing_refusal p drawing)
    (if nat_le (count_of span) 1 then Some OneRound else if nat_lt most_points (count_of span) then Some TooManyPoints else None) fits in
    let below = not_over (nat_lt most_rounds span.last) (if nat_lt span.first p.start then Some RoundsBelowStart else if nat_lt field (length p.program.fields) then None else Some (NoField field)) alone in
    grind (arith, nat_tests, below)

pub is_count_picture : (p : PlanView) (drawing : Drawing) (rows : List RowView) (values text : List ℕ) → curves_refusal p drawing ≡ None → length p.network < 2 ^ 32
    → AreFieldRows p drawing.span.now drawing.colouring.field rows → AreValues (states_drawn drawing.colouring.styles.now) rows values → length values ≤ most_curves
    → text ≡ plotted drawing.span.now (length p.network) (ticks drawing.span.now.first drawing.span.now.last) (ticks 0 (length p.network)) (key_of drawing.colouring.styles.now values) rows values
    → IsCountPicture p drawing text
is_count_picture p drawing rows values text fits nodes counted once few spelled = record {
  rows = rows;
  values = values;
  counted = record { rows_are = counted; values_are = once };
  few = few;
  key = key_of drawing.colouring.styles.now values;
  is_key = is_key drawing.colouring.styles.now values;
  rounds = ticks drawing.span.now.first drawing.span.now.last;
  are_rounds = are_ticks drawing.span.now.first drawing.span.now.last (omega (arith, last_round p drawing fits));
  numbers = ticks 0 (length p.network);
  are_numbers = are_ticks 0 (length p.network) (omega (arith, nodes));
  spelled = spelled;
}
