use Rattle.std.proofs.Common.{◌∙◌, ap, sym, length}
use Rattle.std.specs.Arc.{arc_value}
use Rattle.app_jobs.proofs.Shapes.{lockstep_shape}
use Rattle.app_jobs.proofs.texts.run_text.Goals as goal

pub report-requires-clause-nodes : goal.report-requires-clause-nodes
report-requires-clause-nodes g c =
    ap (λ d. length d.states) c.in_ok-finished.ensures.config ∙ (lockstep_shape (arc_value c.args.plan.now) c.args.rounds).nodes ∙ ap (λ p. length p.network) (sym c.deref.ensures)
