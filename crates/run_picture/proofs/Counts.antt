-- How many values are shown.
use Rattle.std.proofs.Common.{◌≡◌, ◌∙◌, ◌≤◌, ◌==◌, ◌+◌, ◌-◌, ◌*◌, ◌/◌, ℕ, List, [], ◌∷◌, Bool, true, false, if◌then◌else◌, ap, arith, length, nat_lt, refl, slice_index}
use Rattle.std.proofs.lemmas.Bool.Decides.{nat_tests}
use Rattle.std.proofs.lemmas.Grind.{common_steps}
use Rattle.std.proofs.lemmas.List.{length-map}
use Rattle.std.proofs.lemmas.List.FromFn.{length-map-range_with_len}
use Rattle.std.specs.List.{flat_map}
use Rattle.std.specs.Option.{option_or}
use Rattle.std.specs.Prelude.{Option, Some, None}
use Rattle.rounds_plan.specs.Lockstep.{lockstep, lockstep_states}
use Rattle.rounds_plan.specs.Plans.{PlanView}
use Rattle.run_watch.specs.Spans.{SpanView, count_of, round_at, rounds_in}
use Rattle.run_picture.specs.declared.drawing.Drawing.{Drawing}
use Rattle.run_picture.specs.declared.fault.PictureFault.{PictureFault}
use Rattle.run_picture.specs.declared.fault.PictureFault.TheVariants.{NoWidth, TooManyCells, TooManyFrames}
use Rattle.run_picture.specs.Frames.{drawing_refusal, grid_refusal, most_cells, refusal_of, time_refusal, values_after, values_drawn, values_in}
use Rattle.run_picture.specs.Moving.{most_frames, moving_refusal}

-- one for each node
pub values_count : (p : PlanView) (field t : ℕ) → length (values_after p field t) ≡ length p.network
values_count p field t =
    length-map (lockstep_states p t (length p.network)) (λ state. slice_index state.words field) ∙ length-map-range_with_len (lockstep p t) 0 (length p.network)

round_by_round : (p : PlanView) (field : ℕ) (ts : List ℕ) → length (flat_map (values_after p field) ts) ≡ length p.network * length ts
round_by_round p field [] = grind (arith, common_steps)
round_by_round p field (t ∷ ts) =
    let here = values_count p field t in
    let rest = round_by_round p field ts in
    grind (arith, common_steps, here, rest)

rounds_count : (s : SpanView) → length (rounds_in s) ≡ count_of s
rounds_count s = length-map-range_with_len (round_at s) 0 (count_of s)

-- one for each node in each round
pub values_total : (p : PlanView) (s : SpanView) (field : ℕ) → length (values_in p s field) ≡ length p.network * count_of s
values_total p s field = round_by_round p field (rounds_in s) ∙ ap (λ (k : ℕ). length p.network * k) (rounds_count s)

neither : (a b : Option PictureFault) → option_or a b ≡ None → b ≡ None
neither None b none = none
neither (Some fault) b none = absurd (let e : Some fault ≡ None = none in cc)

behind : (b : Bool) (fault : PictureFault) (rest : Option PictureFault) → (if b then Some fault else rest) ≡ None → rest ≡ None
behind true fault rest none = absurd (let e : Some fault ≡ None = none in cc)
behind false fault rest none = none

not_over : (b : Bool) (rest : Option PictureFault) → (if b then Some TooManyCells else rest) ≡ None → b ≡ false
not_over true rest none = absurd (let e : Some TooManyCells ≡ None = none in cc)
not_over false rest none = refl

-- where nothing is refused, they are few
pub cells_few : (p : PlanView) (drawing : Drawing) → time_refusal p drawing ≡ None → length (values_drawn p drawing) ≤ most_cells
cells_few p drawing fits =
    let cells = length p.network * count_of drawing.span.now in
    let few = not_over (nat_lt most_cells cells) None (neither (drawing_refusal p drawing) (if nat_lt most_cells cells then Some TooManyCells else None) fits) in
    let total = values_total p drawing.span.now drawing.colouring.field in
    grind (arith, nat_tests, few, total)

-- where nothing refuses a picture of a round, they are few
pub grid_few : (p : PlanView) (field round width : ℕ) → grid_refusal p round field width ≡ None → length (values_after p field round) ≤ most_cells
grid_few p field round width fits =
    let over = if nat_lt most_cells (length p.network) then Some TooManyCells else None in
    let few = not_over (nat_lt most_cells (length p.network)) None
    (behind (width == 0) NoWidth over (neither (refusal_of p round round field) (if width == 0 then Some NoWidth else over) fits)) in
    let total = values_count p field round in
    grind (arith, nat_tests, few, total)

fewer : (n k : ℕ) → n * (k + 1) ≤ most_cells → n ≤ most_cells
fewer n k few =
    let e : n * (k + 1) ≡ n * k + n = grind (arith, common_steps) in
    omega (arith, few, e)

-- where nothing refuses a moving picture, the nodes are few
pub moving_few : (p : PlanView) (drawing : Drawing) (width : ℕ) → moving_refusal p drawing width ≡ None → length p.network ≤ most_cells
moving_few p drawing width fits =
    let s = drawing.span.now in
    let cells = length p.network * count_of s in
    let long = if nat_lt most_frames (count_of s) then Some TooManyFrames else None in
    let over = if nat_lt most_cells cells then Some TooManyCells else long in
    let is = not_over (nat_lt most_cells cells) long (behind (width == 0) NoWidth over (neither (drawing_refusal p drawing) (if width == 0 then Some NoWidth else over) fits)) in
    let few : cells ≤ most_cells = grind (arith, nat_tests, is) in
    fewer (length p.network) ((s.last - s.first) / s.every) few
