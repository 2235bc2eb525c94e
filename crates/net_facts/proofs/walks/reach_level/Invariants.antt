use Rattle.std.proofs.Common.{◌≡◌, ℕ, length}
use Rattle.std.specs.Prelude.{Contains}
use Rattle.net_facts.specs.Parts.{IsNeighbour}
use Rattle.net_facts.specs.Reaching.{AreReached, Grows, IsClosedBelow}
use Rattle.net_facts.proofs.walks.reach_level.Given as goal

abbrev pub invariant-loop-place : goal.invariant-loop-place
invariant-loop-place l = record {
  whole : AreReached l.reached.marks.items l.reached.nodes.items;
  size : length l.reached.marks.items ≡ length l.network;
  grows : Grows (λ v. (u : ℕ) × Contains l.fn.reached.nodes.items u × IsNeighbour l.network u v) l.fn.reached.nodes.items l.reached.nodes.items;
  fresh : Grows (λ v. Contains l.fn.reached.nodes.items v → ⊥) l.fn.reached.nodes.items l.reached.nodes.items;
  closed : IsClosedBelow l.network l.reached.nodes.items l.place;
}
