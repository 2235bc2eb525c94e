use Rattle.std.proofs.Common.{◌++◌, ◌∙◌, ap}
use Rattle.net_shapes.proofs.Around.{around_is}
use Rattle.net_shapes.proofs.large.frame.Frame.put_neighbours.Goals as goal

pub returns : goal.returns
returns c =
    let f = c.args.self.now in
    let is = around_is f c.requires.frame c.args.node c.requires.low _ _ c.near-columns.ensures c.near-rows.ensures in
    c.in_ok-put_around.ensures ∙ rw (c.places.ensures, c.places-2.ensures) (ap (λ xs. c.args.neighbours.now.items ++ xs) is)
