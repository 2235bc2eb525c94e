use Rattle.std.proofs.Common.{ℕ, ◌<◌, length}
use Rattle.net_facts.specs.Distances.{IsDistance, IsWithin}
use Rattle.net_facts.specs.Parts.{AreJoined}
use Rattle.net_facts.proofs.walks.diameter.Given as goal

abbrev pub invariant-loop-node : goal.invariant-loop-node
invariant-loop-node l = record {
  far : (u : ℕ) × (w : ℕ) × (u < length l.network) × IsDistance l.network u w l.greatest;
  within : (u w : ℕ) → u < l.node → AreJoined l.network u w → IsWithin l.network u w l.greatest;
}
