use Rattle.std.proofs.Common.{◌≡◌, ◌∙◌, sym, subst}
use Rattle.app_jobs.specs.Served.{HasPlanShape}
use Rattle.app_jobs.proofs.Shapes.{state_each}
use Rattle.app_jobs.proofs.texts.compare_text.Goals as goal

pub comparison_text-requires-clause-shape : goal.comparison_text-requires-clause-shape
comparison_text-requires-clause-shape g c =
    let same : c.deref-2.result.now ≡ c.deref.result.now = c.deref-2.ensures ∙ sym c.deref.ensures in
    subst (λ p. HasPlanShape p c.in_ok-stepped.stepped) (sym same) (state_each c.deref.result.now c.args.rounds c.in_ok-stepped.stepped c.in_ok-stepped.ensures.exact)
