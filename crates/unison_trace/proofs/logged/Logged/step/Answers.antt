use Rattle.std.proofs.Common.{◌≡◌, ap, ◌∙◌, true, false}
use Rattle.unison_world.specs.View.{answer_in}
use Rattle.unison_trace.specs.Histories.{is_change}
use Rattle.unison_trace.proofs.Leading.{history-stored, world-same}
use Rattle.unison_trace.proofs.logged.Logged.step.Goals.{then-changes+in_ok-store, else-changes}
use Rattle.unison_trace.proofs.logged.Logged.step.Goals as goal

pub invariant_of-self-2 : goal.invariant_of-self-2
invariant_of-self-2 c = elim c.if-changes.branch [
  | then-changes+in_ok-store w ↦
      let world = ap (λ i. i.world) w.self-inside-is in
      let log = ap (λ i. i.log) w.self-inside-is ∙ w.in_ok-store.ensures.stored in
      let changed : is_change (answer_in c.self.inside.world c.args.step) ≡ true = cc in
      rw (c.step.ensures.after, world, log) (history-stored c.self.inside.world c.self.inside.log c.args.step c.self.invariant changed w.in_ok-store.ensures.room)
  | else-changes w ↦
      let world = ap (λ i. i.world) w.self-inside-is in
      let log = ap (λ i. i.log) w.self-inside-is in
      let same : is_change (answer_in c.self.inside.world c.args.step) ≡ false = cc in
      rw (c.step.ensures.after, world, log, world-same c.self.inside.world c.args.step same) c.self.invariant
]
