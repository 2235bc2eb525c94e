use Rattle.std.proofs.Common.{◌≡◌, ℕ, ◌<◌, length, get_or}
use Rattle.std.specs.Prelude.{Contains}
use Rattle.net_facts.specs.Parts.{IsNeighbour}
use Rattle.net_facts.specs.Reaching.{AreReached, Grows}
use Rattle.net_facts.proofs.parts.reach_neighbours.Given as goal

abbrev pub invariant-loop-neighbour : goal.invariant-loop-neighbour
invariant-loop-neighbour l = record {
  whole : AreReached l.reached.marks.items l.reached.nodes.items;
  size : length l.reached.marks.items ≡ length l.network;
  grows : Grows (IsNeighbour l.network l.node) l.fn.reached.nodes.items l.reached.nodes.items;
  fresh : Grows (λ v. Contains l.fn.reached.nodes.items v → ⊥) l.fn.reached.nodes.items l.reached.nodes.items;
  all : (k : ℕ) → k < l.neighbour-index → Contains l.reached.nodes.items (get_or l.neighbours k 0);
}
