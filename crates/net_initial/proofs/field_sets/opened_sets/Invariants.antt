use Rattle.std.proofs.Common.{◌≡◌, ℕ, List, false, take}
use Rattle.link_net.specs.Names.{AreRising}
use Rattle.net_initial.specs.Opened.{set_at, set_after, has_undefined}
use Rattle.net_initial.proofs.field_sets.opened_sets.Given as goal

abbrev pub invariant-loop-place : goal.invariant-loop-place
invariant-loop-place l = record {
  rising : AreRising l.opened.items;
  each : (f : List ℕ) → set_at l.opened.items f ≡ set_after l.nodes l.sets l.openings (take l.place l.openings) f;
  defined : has_undefined l.nodes l.sets (take l.place l.openings) ≡ false;
}
