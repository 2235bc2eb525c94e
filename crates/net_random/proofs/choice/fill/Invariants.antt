use Rattle.std.proofs.Common.{◌≡◌, ◌≤◌, ◌<◌, ℕ, true, length}
use Rattle.net_random.specs.Growth.{IsChoice, has}
use Rattle.net_random.proofs.choice.fill.Given as goal

abbrev pub invariant-loop-other : goal.invariant-loop-other
invariant-loop-other l = record {
  different : IsChoice l.node l.chosen.keys;
  few : length l.chosen.keys ≤ l.count;
  lowest : (w : ℕ) → w < l.other → has w l.chosen.keys ≡ true;
}
