use Rattle.std.proofs.Common.{arith, ◌≡◌, ◌≤◌, refl, length, slice_get, Some, ⊎_elim}
use Rattle.std.proofs.lemmas.Bool.{cases_lt}
use Rattle.std.proofs.lemmas.Option.{slice_get_read}
use Rattle.unison_world.proofs.Sights.{moves_at}
use Rattle.unison_world.proofs.turns.least_count.Goals as goal

pub loop-node-preserved : goal.loop-node-preserved
loop-node-preserved c =
    let items = c.args.nodes.now.items in
    let i = c.loop-node.invariant in
    let this = c.index.result.now in
    let at : slice_get items c.loop-node.node ≡ Some this = slice_get_read items (length items) c.loop-node.node this refl (omega (arith, c.loop-node-test.true)) c.index.ensures in
    let moves = moves_at items c.loop-node.node this at in
    record {
      least = λ u h.
          ⊎_elim
          (λ l. (let a = i.least u l in omega (arith, a, c.min-least.ensures)))
          (λ (l : c.loop-node.node ≤ u). (let e : c.loop-node.node ≡ u = omega (arith, h, l) in rw (← e) (omega (arith, moves, c.min-least.ensures))))
          (cases_lt u c.loop-node.node);
      stop = omega (arith, i.stop, c.min-least.ensures);
    }
