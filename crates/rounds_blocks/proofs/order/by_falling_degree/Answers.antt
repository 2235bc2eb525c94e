use Rattle.std.proofs.Common.{rules, of_calls, arith, ◌-◌, slice_index}
use Rattle.std.proofs.lemmas.List.Sorted.{IsNonDecreasingBy-from_sort_by_key}
use Rattle.link_net.specs.Neighbours.{degree}
use Rattle.rounds_blocks.proofs.order.by_falling_degree.Goals as goal

pub returns-clause-falling : goal.returns-clause-falling
returns-clause-falling c = λ i j le inside.
    let network = c.args.network.now in
    let nodes = c.sort_by_key.new.self.items in
    let rising = IsNonDecreasingBy-from_sort_by_key (λ u. 4294967295 - degree network u) nodes c.in_ok-sort_by_key.ensures.sorted (λ a r f k. search (rules, of_calls)) in
    let whole = c.nodes-nodes.ensures.whole in
    omega (arith, rising i j 0 le inside, whole.degrees (slice_index nodes i), whole.degrees (slice_index nodes j))
