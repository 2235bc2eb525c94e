use Rattle.run_schedule.specs.declared.daemon.Daemon.TheVariants.{Synchronous}
use Rattle.run_schedule.specs.Daemons.{AreChosen}
use Rattle.run_schedule.proofs.Drawn.{all-chosen, if-ok}
use Rattle.run_schedule.proofs.choosing.all_enabled.Goals as goal

pub returns : goal.returns
returns c =
    let w = c.args.walk.now.world in
    record { chosen = if-ok c.free_nodes.result _ (λ v. AreChosen w Synchronous v.items) (λ v free. all-chosen w v.items free) c.free_nodes.ensures.free }
