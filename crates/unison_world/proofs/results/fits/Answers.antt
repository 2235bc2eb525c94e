use Rattle.std.proofs.Common.{◌≡◌, ◌∙◌, sym, refl, ◌<◌, length, slice_get, Some}
use Rattle.std.proofs.lemmas.Option.{slice_get_read}
use Rattle.unison_world.proofs.Standing.{fits_by, fits_tells}
use Rattle.unison_world.proofs.results.fits.Goals as goal

pub returns : goal.returns
returns c =
    let plan = c.args.plan.now in
    let items = c.args.nodes.now.items in
    let node = c.work.inside.node in
    let this = c.index-this.result.now in
    let inside : node < length items = rw (← c.work.view_is) at c.requires.node in
    let at : slice_get items node ≡ Some this = slice_get_read items (length items) node this refl inside c.index-this.ensures in
    let p = c.requires.drawn.each node this at in
    let program = rw (c.program.ensures.program, c.deref.ensures, c.program-2.ensures.program) at c.if-not-same.ensures.exact.0 refl in
    let own = c.if-not-are_same.ensures.0 refl ∙ c.now.ensures.state in
    let many = c.if-work-degree.false ∙ c.degree.ensures.count in
    rw (← c.work.view_is) (record {
      fits = λ stop. (
        λ t. fits_by plan stop items _ this at p program own c.if-work-this.false many (c.sums_same.ensures.0 t ∙ c.sums.ensures.sums),
        λ f. (let k = fits_tells plan stop items _ this at p f in c.sums_same.ensures.1 (k.4 ∙ sym c.sums.ensures.sums)),
      );
    })
