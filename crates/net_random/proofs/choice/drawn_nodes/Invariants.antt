use Rattle.std.proofs.Common.{◌≤◌, ℕ, length}
use Rattle.link_net.specs.Links.{AllWithin}
use Rattle.net_random.specs.Growth.{IsChoice}
use Rattle.net_random.proofs.choice.drawn_nodes.Given as goal

abbrev pub invariant-loop : goal.invariant-loop
invariant-loop l = record {
  different : (n : ℕ) → AllWithin n l.links → IsChoice n l.chosen.keys;
  few : length l.chosen.keys ≤ l.count;
}
