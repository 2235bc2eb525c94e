use Rattle.std.proofs.Common.{◌≡◌, None, sym, rules}
use Rattle.net_shapes.specs.Sizes.{refusal_of}
use Rattle.net_shapes.proofs.Crowds.{refused_none}
use Rattle.net_shapes.proofs.EachShape.{shape_listing, shape_has, shape_count}
use Rattle.net_shapes.proofs.maker.links_of.Goals as goal

pub sound-requires : goal.sound-requires
sound-requires c =
    let fits : refusal_of c.args.shape.now ≡ None = search rules in
    rw (c.node_count.ensures, c.in_ok-links.ensures) (shape_listing c.args.shape.now fits)

pub returns-clause-made : goal.returns-clause-made
returns-clause-made c =
    let fits : refusal_of c.args.shape.now ≡ None = search rules in
    rw (c.sound.ensures.listing, c.node_count.ensures, c.in_ok-links.ensures) (shape_has c.args.shape.now fits)

pub returns-in-Some-clause-too_many : goal.returns-in-Some-clause-too_many
returns-in-Some-clause-too_many c not_memory not_count = refused_none c.args.shape.now c.in-Some.fault (sym c.in-Some.ensures) not_count

pub returns-clause-count : goal.returns-clause-count
returns-clause-count c =
    let fits : refusal_of c.args.shape.now ≡ None = search rules in
    rw (c.sound.ensures.listing, c.in_ok-links.ensures) (shape_count c.args.shape.now fits)
