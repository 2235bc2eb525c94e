use Rattle.std.proofs.Common.{sym, refl}
use Rattle.std.proofs.lemmas.Bool.{false≢true}
use Rattle.unison_world.proofs.results.ask_put.Goals as goal

pub returns-then-fits : goal.returns-then-fits
returns-then-fits c =
    let moves = rw c.node.ensures.node at c.in-Moved.ensures.answer in
    let fits = rw c.work.ensures.work at (c.if-fits.ensures.fits c.args.stop).0 refl in
    record { answer = (sym moves, fits) }

pub returns-else-fits : goal.returns-else-fits
returns-else-fits c =
    let moves = rw c.node.ensures.node at c.in-Moved.ensures.answer in
    let fits = rw c.work.ensures.work at (c.if-fits.ensures.fits c.args.stop).1 in
    record { answer = (sym moves, λ f. false≢true (fits f)) }
