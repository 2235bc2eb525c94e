use Rattle.std.proofs.Common.{arith, ◌≡◌, length, refl, slice_get, Some}
use Rattle.std.proofs.lemmas.Option.{slice_get_read}
use Rattle.unison_world.proofs.Sights.{moves_at}
use Rattle.unison_world.proofs.world_ref.WorldRef.moves.Goals as goal

pub returns-clause-limit : goal.returns-clause-limit
returns-clause-limit c =
    let items = c.self.inside.nodes.items in
    let at : slice_get items c.args.node ≡ Some c.index.result.now = slice_get_read items (length items) c.args.node c.index.result.now refl (omega (arith, c.if-place-len.false)) c.index.ensures in
    omega (arith, moves_at items c.args.node c.index.result.now at, c.self.invariant.in_step.within c.args.node, c.self.invariant.limit)
