-- What is shown of the rounds of a plan, and why it is not.
use Rattle.std.specs.Prelude.{ℕ, ◌*◌, ◌==◌, List, if◌then◌else◌, length, map, nat_lt, slice_index, Option, Some, None}
use Rattle.std.specs.List.{flat_map}
use Rattle.std.specs.Option.{option_or}
use Rattle.rounds_plan.specs.Configs.{most_rounds}
use Rattle.rounds_plan.specs.Lockstep.{lockstep_states}
use Rattle.rounds_plan.specs.Plans.{PlanView}
use Rattle.run_watch.specs.Spans.{SpanView, count_of, rounds_in}
use Rattle.run_picture.specs.declared.drawing.Drawing.{Drawing}
use Rattle.run_picture.specs.declared.fault.PictureFault.{PictureFault}
use Rattle.run_picture.specs.declared.fault.PictureFault.TheVariants.{TooManyRounds, RoundsBelowStart, NoField, NoWidth, TooManyCells}

-- the values of a field after round t, by rising number of the node
abbrev pub values_after : PlanView → ℕ → ℕ → List ℕ
values_after p field t = map (λ state. slice_index state.words field) (lockstep_states p t (length p.network))

-- the same, round by round
abbrev pub values_in : PlanView → SpanView → ℕ → List ℕ
values_in p span field = flat_map (values_after p field) (rounds_in span)

-- the values that are drawn
abbrev pub values_drawn : PlanView → Drawing → List ℕ
values_drawn p drawing = values_in p drawing.span.now drawing.colouring.field

-- the most cells of a picture
abbrev pub most_cells : ℕ
most_cells = 1000000

-- why rounds from a first one to a last one have no values of a field
abbrev pub refusal_of : PlanView → ℕ → ℕ → ℕ → Option PictureFault
refusal_of p first last field =
    if nat_lt most_rounds last then Some TooManyRounds
    else if nat_lt first p.start then Some RoundsBelowStart
    else if nat_lt field (length p.program.fields) then None
    else Some (NoField field)

-- why no values are drawn
abbrev pub drawing_refusal : PlanView → Drawing → Option PictureFault
drawing_refusal p drawing = refusal_of p drawing.span.now.first drawing.span.now.last drawing.colouring.field

-- why there is no picture of the rounds that are drawn, one below the other
abbrev pub time_refusal : PlanView → Drawing → Option PictureFault
time_refusal p drawing = option_or (drawing_refusal p drawing) (if nat_lt most_cells (length p.network * count_of drawing.span.now) then Some TooManyCells else None)

-- why there is no picture of a round in rows of a width
abbrev pub grid_refusal : PlanView → ℕ → ℕ → ℕ → Option PictureFault
grid_refusal p round field width =
    option_or (refusal_of p round round field) (if width == 0 then Some NoWidth else if nat_lt most_cells (length p.network) then Some TooManyCells else None)
