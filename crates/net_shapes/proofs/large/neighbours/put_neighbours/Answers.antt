use Rattle.std.proofs.Common.{◌≡◌, ◌++◌, List, ℕ, subst, sym}
use Rattle.std.specs.Prelude.{OnOk}
use Rattle.net_shapes.proofs.EachLargeShape.{frame_low, frame_row, is_frame}
use Rattle.net_shapes.proofs.ListedRows.{listed_row}
use Rattle.net_shapes.proofs.large.neighbours.put_neighbours.Goals as goal

pub put_neighbours-requires-clause-frame : goal.put_neighbours-requires-clause-frame
put_neighbours-requires-clause-frame c = is_frame c.args.shape.now c.in-Some.frame (sym c.in-Some.ensures) c.requires.fits

pub put_neighbours-requires-clause-low : goal.put_neighbours-requires-clause-low
put_neighbours-requires-clause-low c = frame_low c.args.shape.now c.in-Some.frame (sym c.in-Some.ensures) c.args.node c.requires.low

pub returns-in-Some : goal.returns-in-Some
returns-in-Some c =
    subst (λ (xs : List ℕ). OnOk c.put_neighbours.result (c.put_neighbours.new.neighbours.items ≡ c.args.neighbours.now.items ++ xs))
    (frame_row c.args.shape.now c.in-Some.frame (sym c.in-Some.ensures) c.requires.fits c.args.node c.requires.low) c.put_neighbours.ensures

pub returns-in-None : goal.returns-in-None
returns-in-None c =
    subst (λ (xs : List ℕ). OnOk c.put_listed.result (c.put_listed.new.neighbours.items ≡ c.args.neighbours.now.items ++ xs))
    (listed_row c.args.shape.now (sym c.in-None.ensures) c.requires.fits c.args.node c.requires.low) c.put_listed.ensures
