use Rattle.std.proofs.Common.{◌≡◌, ◌==◌, ◌&&◌, true, false, min, max, cond, ap, ◌∙◌}
use Rattle.std.proofs.lemmas.Option.{get_or_from_slice_get}
use Rattle.net_random.specs.Changed.{has_pair}
use Rattle.net_random.proofs.Changing.{pairs_put}
use Rattle.net_random.proofs.changed.Changed.put.Goals as goal

pub returns-clause-pairs : goal.returns-clause-pairs
returns-clause-pairs c here at u w low =
    let link = c.args.link in
    let old = has_pair c.args.self.now.pairs.keys u w in
    let same : c.in-Some.here.now ≡ here = c.in-Some.ensures.item.3.1 (0, 0, 0) ∙ get_or_from_slice_get c.args.self.now.links.items c.args.place here (0, 0, 0) at in
    let before : has_pair c.swap_remove.new.self.keys u w ≡ cond (min here.0 here.1 == u && max here.0 here.1 == w) false old = rw (c.pair.ensures, same) at (c.swap_remove.ensures.updates.0 (u, w)) in
    let after : has_pair c.insert.new.self.keys u w ≡ cond (min link.0 link.1 == u && max link.0 link.1 == w) true (has_pair c.swap_remove.new.self.keys u w) = rw c.pair-2.ensures at (c.in_ok-insert.ensures.updates.0 (u, w)) in
    after ∙ ap (λ b. cond (min link.0 link.1 == u && max link.0 link.1 == w) true b) before ∙ pairs_put here link u w old low
