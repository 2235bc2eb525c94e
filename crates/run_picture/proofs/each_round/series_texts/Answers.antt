use Rattle.std.proofs.Common.{◌∙◌, ◌+◌, ◌*◌, ℕ, ap, length, sym}
use Rattle.link_net.specs.Neighbours.{Neighbours}
use Rattle.rounds_plan.specs.Plans.{PlanView}
use Rattle.run_picture.specs.Frames.{values_drawn}
use Rattle.run_picture.specs.Keys.{key_of}
use Rattle.run_picture.proofs.Counts.{values_total}
use Rattle.run_picture.proofs.RoundParts.{sheets_are}
use Rattle.run_picture.proofs.each_round.series_texts.Goals as goal

pub sheets_of-requires-clause-count : goal.sheets_of-requires-clause-count
sheets_of-requires-clause-count g c =
    let p = c.args.plan.now in
    let drawing = c.args.drawing.now in
    let values = c.in_ok-values.ensures.values ∙ ap (λ (q : PlanView). values_drawn q drawing) c.of_plan-lent.ensures.plan in
    ap length (c.deref-2.ensures.value ∙ values)
    ∙ values_total p drawing.span.now drawing.colouring.field
    ∙ ap (λ (k : ℕ). length p.network * k) (sym c.steps.ensures.steps)
    ∙ sym (ap (λ (network : Neighbours). length network * (c.steps.result + 1)) c.network-network.ensures.network)

pub returns : goal.returns
returns g c =
    let p = c.args.plan.now in
    let drawing = c.args.drawing.now in
    let values = c.in_ok-values.ensures.values ∙ ap (λ (q : PlanView). values_drawn q drawing) c.of_plan-lent.ensures.plan in
    let key = c.in_ok-key.ensures.key ∙ ap (key_of drawing.colouring.styles.now) (c.deref.ensures.value ∙ values) in
    record {
      texts = c.in_ok-texts.ensures.texts
          ∙ sheets_are p drawing c.args.layout c.network-network.result.now c.in_ok-key.key c.deref-2.result.now (c.steps.result + 1) c.network-network.ensures.network key
          (c.deref-2.ensures.value ∙ values) c.steps.ensures.steps;
    }
