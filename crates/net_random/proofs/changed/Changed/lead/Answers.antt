use Rattle.std.proofs.Common.{◌≡◌, ◌∙◌, Some, slice_get, refl, sym}
use Rattle.net_random.proofs.Changing.{known_put, start_within, stands, starts_set}
use Rattle.net_random.proofs.changed.Changed.lead.Goals as goal

pub returns-clause-known : goal.returns-clause-known
returns-clause-known c n low is =
    let links = c.args.self.now.links.items in
    let here = c.in-Some.here.now in
    let lookup = rw c.deref.ensures.value at c.in-Some.ensures.lookup in
    let at : slice_get links c.args.place ≡ Some here = stands c.args.place here (0, 0, 0) links lookup.3.0 (lookup.3.1 (0, 0, 0)) in
    rw c.in_ok-put.ensures.links
    (known_put n c.args.place here (here.0, c.args.node, 1) links c.args.self.now.pairs.keys c.put.new.self.pairs.keys
    at refl (start_within n c.args.place here links c.args.self.now.pairs.keys is at) low
    is (sym c.is_free.ensures ∙ c.if-not-is_free.false) (c.in_ok-put.ensures.pairs here at))

pub returns-clause-starts : goal.returns-clause-starts
returns-clause-starts c =
    let links = c.args.self.now.links.items in
    let here = c.in-Some.here.now in
    let lookup = rw c.deref.ensures.value at c.in-Some.ensures.lookup in
    let at : slice_get links c.args.place ≡ Some here = stands c.args.place here (0, 0, 0) links lookup.3.0 (lookup.3.1 (0, 0, 0)) in
    rw c.in_ok-put.ensures.links (starts_set c.args.place here (here.0, c.args.node, 1) links at refl)
