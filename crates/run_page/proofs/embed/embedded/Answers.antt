use Rattle.run_page.proofs.Marks.{is_embedded}
use Rattle.run_page.proofs.embed.embedded.Goals as goal

pub returns-clause-page : goal.returns-clause-page
returns-clause-page c = is_embedded c.args.viewer.now c.args.content.now c.in_ok-page.page.items c.in_ok-place.place c.in_ok-place.ensures.only c.in_ok-page.ensures
