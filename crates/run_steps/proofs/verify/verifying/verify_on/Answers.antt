use Rattle.std.proofs.Common.{◌∙◌, ap, sym}
use Rattle.unison_world.specs.View.{WorldView, opened}
use Rattle.run_steps.proofs.verify.verifying.verify_on.Goals as goal

pub opening_states-requires : goal.opening_states-requires
opening_states-requires c =
    let is = c.requires.opened in
    record { opened = is ∙ ap (λ t. opened c.args.world.plan t) (sym (ap (λ (w : WorldView). w.stop) is)) }
