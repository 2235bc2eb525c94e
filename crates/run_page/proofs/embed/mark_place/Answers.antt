use Rattle.run_page.proofs.Marks.{stands_nowhere}
use Rattle.run_page.proofs.embed.mark_place.Goals as goal

pub returns-in-None-clause-refused : goal.returns-in-None-clause-refused
returns-in-None-clause-refused c = (λ e. cc, stands_nowhere c.args.viewer.now c.in-None.ensures.first)
