-- What is to be shown of each shape.
use Rattle.std.proofs.Common.{◌≡◌, ℕ, ◌≤◌, Bool, true, false, ◌&&◌, not, nat_le, nat_lt, length, None, Some, refl, arith, if◌then◌else◌}
use Rattle.std.proofs.lemmas.Bool.{and_parts}
use Rattle.std.proofs.lemmas.Bool.Decides.{nat_tests}
use Rattle.link_net.specs.Limits.{most_nodes, most_links, most_neighbours}
use Rattle.link_net.specs.Neighbours.{numbers_below}
use Rattle.net_shapes.specs.declared.shape.Shape.{Shape}
use Rattle.net_shapes.specs.declared.fault.ShapeFault.TheVariants.{NodeCount, TooManyLinks, TooManyNeighbours}
use Rattle.net_shapes.specs.Shapes.{node_count, leads}
use Rattle.net_shapes.specs.Sizes.{has_size, link_count, neighbour_count, refusal_of}
use Rattle.net_shapes.specs.Ahead.{ahead, links_ahead}
use Rattle.net_shapes.proofs.Ahead.{IsAhead}
use Rattle.net_shapes.proofs.Few.{HasFew}

-- what is to be shown of a shape
pub record IsSound (s : Shape) : Type 0 where
  pub some : 1 ≤ node_count s
  pub small : node_count s ≤ most_nodes
  pub is_ahead : IsAhead (node_count s) (ahead s) (leads s)
  pub has_few : neighbour_count s ≤ most_neighbours → HasFew (node_count s) (leads s)
  pub count : length (links_ahead (ahead s) (numbers_below (node_count s))) ≡ link_count s

-- what is known of a shape that nothing refuses
pub record Fits (s : Shape) : Type 0 where
  pub size : has_size s ≡ true
  pub links : link_count s ≤ most_links
  pub neighbours : neighbour_count s ≤ most_neighbours

passed : (a b c : Bool) → (if not a then Some NodeCount else if b then Some TooManyLinks else if c then Some TooManyNeighbours else None) ≡ None
    → (a ≡ true) × (b ≡ false) × (c ≡ false)
passed true true c h = cc
passed true false true h = cc
passed true false false h = (refl, refl, refl)
passed false b c h = cc

at_most : (k m : ℕ) → nat_lt m k ≡ false → k ≤ m
at_most k m h = grind (arith, nat_tests)

pub fits : (s : Shape) → refusal_of s ≡ None → Fits s
fits s h =
    let p = passed (has_size s) (nat_lt most_links (link_count s)) (nat_lt most_neighbours (neighbour_count s)) h in
    record { size = p.0; links = at_most (link_count s) most_links p.1; neighbours = at_most (neighbour_count s) most_neighbours p.2 }

pub sizes : (low n : ℕ) → (nat_le low n && nat_le n most_nodes) ≡ true → (low ≤ n) × (n ≤ most_nodes)
sizes low n h = let (a, b) = and_parts (nat_le low n) (nat_le n most_nodes) h in (grind (arith, nat_tests), grind (arith, nat_tests))
