use Rattle.std.proofs.Common.{◌≡◌, true, false, refl, rules}
use Rattle.link_net.specs.Arcs.{repeats}
use Rattle.link_net.proofs.ArcLaws.{once, rising, twice, sorted_by_ends}
use Rattle.link_net.proofs.tables.sorted_arcs.Goals as goal

pub returns-then-has_repeat-clause-twice : goal.returns-then-has_repeat-clause-twice
returns-then-has_repeat-clause-twice c h =
    let again : repeats c.sort_unstable.new.self.items ≡ true = search rules in
    let moved = rw c.in_ok-arcs.ensures at c.sort_unstable.ensures.permutation in
    (refl, twice c.args.links.now c.sort_unstable.new.self.items c.requires moved again)

pub returns-clause-once : goal.returns-clause-once
returns-clause-once c =
    let none : repeats c.sort_unstable.new.self.items ≡ false = search rules in
    let moved = rw c.in_ok-arcs.ensures at c.sort_unstable.ensures.permutation in
    once c.args.links.now c.sort_unstable.new.self.items moved (sorted_by_ends c.sort_unstable.new.self.items c.sort_unstable.ensures.sorted) none

pub returns-clause-sorted : goal.returns-clause-sorted
returns-clause-sorted c =
    let none : repeats c.sort_unstable.new.self.items ≡ false = search rules in
    rising c.sort_unstable.new.self.items (sorted_by_ends c.sort_unstable.new.self.items c.sort_unstable.ensures.sorted) none
