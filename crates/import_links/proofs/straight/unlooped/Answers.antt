use Rattle.import_links.proofs.Fewer.{fewer_straight}
use Rattle.import_links.proofs.straight.unlooped.Goals as goal

pub returns-in_ok-straight-in-Dropped-clause-few : goal.returns-in_ok-straight-in-Dropped-clause-few
returns-in_ok-straight-in-Dropped-clause-few c = fewer_straight c.args.links.now c.in_ok-straight-in-Dropped.field-0.items c.in_ok-straight-in-Dropped.ensures
