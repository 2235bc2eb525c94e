use Rattle.run_page.proofs.Fitting.{rounds_fit}
use Rattle.run_page.proofs.rounds.put_rounds.Goals as goal

pub put_head-requires-clause-fields : goal.put_head-requires-clause-fields
put_head-requires-clause-fields g c = (rounds_fit c.args.plan.now c.args.shown.now c.requires.fits).2

pub states-requires-clause-late : goal.states-requires-clause-late
states-requires-clause-late g c κs within = (rounds_fit c.args.plan.now c.args.shown.now c.requires.fits).1

pub states-requires-clause-few : goal.states-requires-clause-few
states-requires-clause-few g c κs within = (rounds_fit c.args.plan.now c.args.shown.now c.requires.fits).0
