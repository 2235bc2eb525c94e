use Rattle.std.proofs.Common.{◌∙◌, ap, sym}
use Rattle.unison_trace.specs.Histories.{is_change}
use Rattle.run_schedule.proofs.Mixing.{read-refused}
use Rattle.run_schedule.proofs.refused.refused_of.Goals as goal

pub returns-then-changes : goal.returns-then-changes
returns-then-changes c =
    let w = c.args.world.now in
    read-refused w.plan.network w.stop w.counts c.args.node c.requires.linked (ap is_change (sym c.ask.ensures.answer) ∙ sym c.changes.ensures ∙ c.if-changes.true)
