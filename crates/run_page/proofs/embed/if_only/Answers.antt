use Rattle.run_page.proofs.Marks.{stands_only}
use Rattle.run_page.proofs.embed.if_only.Goals as goal

pub returns-in-None-clause-only : goal.returns-in-None-clause-only
returns-in-None-clause-only c = stands_only c.args.viewer.now c.args.place c.requires.first c.in-None.ensures.first
