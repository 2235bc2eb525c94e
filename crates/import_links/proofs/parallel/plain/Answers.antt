use Rattle.std.proofs.Common.{◌++◌, ◌∷◌, [], ◌+◌, false, drop, get_or, ap, sym, ◌∙◌, append_assoc, append-nil}
use Rattle.std.proofs.lemmas.List.{at_drop_more, at_drop_all}
use Rattle.import_links.specs.declared.placed.PlacedLink.{PlacedLink}
use Rattle.import_links.specs.Settling.{links_of}
use Rattle.import_links.proofs.parallel.plain.Goals as goal

-- one link more
pub loop-placed-preserved : goal.loop-placed-preserved
loop-placed-preserved c =
    let links = c.args.links.now in
    let i = c.loop-placed.placed-index in
    let none : PlacedLink = record { link = (0, 0, 0); line = 0; exact = false } in
    let done = c.loop-placed.plain.items in
    let left = links_of (drop (i + 1) links) in
    ap (λ ls. ls ++ left) c.in_ok-push.ensures.items ∙ append_assoc done ((get_or links i none).link ∷ []) left
    ∙ sym (at_drop_more (λ ls. done ++ links_of ls) links i none c.loop-placed-test.true) ∙ c.loop-placed.invariant

pub returns : goal.returns
returns c =
    let done = c.loop-placed.plain.items in
    sym (append-nil done) ∙ sym (at_drop_all (λ ls. done ++ links_of ls) c.args.links.now c.loop-placed.placed-index c.loop-placed-test.false) ∙ c.loop-placed.invariant
