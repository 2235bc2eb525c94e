-- Each round of a span has its point on the curve of a value.
use Rattle.std.proofs.Common.{◌≡◌, ◌∙◌, ◌++◌, ℕ, suc, List, [], ◌∷◌, Option, None, All, ap, arith, length, map, refl, slice_index_or}
use Rattle.std.specs.List.{count_by, flat_map}
use Rattle.rounds_walk.specs.Counts.{has_value}
use Rattle.rounds_plan.specs.Lockstep.{lockstep_config, lockstep_states}
use Rattle.rounds_plan.specs.Plans.{PlanView}
use Rattle.run_watch.specs.Spans.{SpanView, rounds_in}
use Rattle.run_counts.specs.declared.asked.Until.{Until}
use Rattle.run_counts.specs.Rows.{RowView, count_in, rounds_until}
use Rattle.run_counts.proofs.Cells.{cells_are_counts}
use Rattle.run_picture.specs.Curves.{AreFieldRows, EachRoundHasItsPoint, nodes_with, point_text, points_text}

-- where nothing ends the rounds, they are all
all_rounds : (p : PlanView) (ts : List ℕ) → rounds_until p None ts ≡ ts
all_rounds p [] = refl
all_rounds p (t ∷ ts) = ap (λ (rest : List ℕ). t ∷ rest) (all_rounds p ts)

-- points by rows are points by rounds, where the number beside the value is that of the round
by_rounds : (nodes : ℕ → ℕ) (v : ℕ) (rows : List RowView) → All (λ (row : RowView). count_in row.counts v ≡ nodes row.round) rows
    → points_text rows v ≡ flat_map (λ (t : ℕ). point_text t (nodes t)) (map (λ (row : RowView). row.round) rows)
by_rounds nodes v [] each = refl
by_rounds nodes v (row ∷ rows) each =
    ap (λ (n : ℕ). point_text row.round n ++ points_text rows v) (each 0 row (omega arith))
    ∙ ap (λ (text : List ℕ). point_text row.round (nodes row.round) ++ text) (by_rounds nodes v rows (λ k d inside. each (suc k) d (omega (arith, inside))))

-- the rows are those of the rounds of the span
pub rounds_are : (p : PlanView) (span : SpanView) (field : ℕ) (rows : List RowView) → AreFieldRows p span field rows → map (λ (row : RowView). row.round) rows ≡ rounds_in span
rounds_are p span field rows are = are.rows_are.rounds ∙ ap (λ (until : Option Until). rounds_until p until (rounds_in span)) are.all_rounds ∙ all_rounds p (rounds_in span)

pub each_round_has_its_point : EachRoundHasItsPoint
each_round_has_its_point p span field states rows values v counted =
    let are = counted.rows_are in
    let nodes = nodes_with p field v in
    by_rounds nodes v rows (λ k d inside.
    let row = slice_index_or rows k d in
    cells_are_counts are.counting (lockstep_config p row.round) row v (are.rows_are.each k d inside)
    ∙ ap (λ (f : ℕ). count_by (has_value f v) (lockstep_states p row.round (length p.network))) are.of_field)
    ∙ ap (flat_map (λ (t : ℕ). point_text t (nodes t))) (rounds_are p span field rows are)
