use Rattle.std.proofs.Common.{arith, ◌≡◌, ◌∙◌, ap, ◌<◌, true, length, refl, Some, nat_lt, slice_get}
use Rattle.std.proofs.lemmas.Bool.Decides.{nat_tests}
use Rattle.std.proofs.lemmas.Option.{slice_get_read}
use Rattle.std.specs.Arc.{arc_value}
use Rattle.unison_world.proofs.Sights.{moves_at}
use Rattle.unison_world.proofs.world.World.phase.Goals as goal

pub returns : goal.returns
returns c =
    let plan = arc_value c.self.inside.plan in
    let items = c.self.inside.nodes.items in
    let l = rw c.deref.ensures.value at c.in_ok-get.ensures.lookup in
    let drawn = c.self.invariant.drawn in
    let inside : c.args.node < length items = l.3.0 in
    let at : slice_get items c.args.node ≡ Some c.in_ok-get.field-0.now = slice_get_read items (length items) c.args.node c.in_ok-get.field-0.now refl inside l.1 in
    let moves = moves_at items c.args.node c.in_ok-get.field-0.now at in
    let phase = c.phase.ensures.phase ∙ (drawn.each c.args.node c.in_ok-get.field-0.now at).phase in
    let node : nat_lt c.args.node (length plan.network) ≡ true = (let o = drawn.one_each in grind (arith, nat_tests)) in
    rw (← c.self.view_is) (record { phase = rw node (rw moves (ap Some phase)) })
