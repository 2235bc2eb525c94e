-- What is known of a random network that nothing refuses.
use Rattle.std.proofs.Common.{◌≡◌, ◌≤◌, Bool, true, false, ◌||◌, nat_lt, None, Some, refl, arith, if◌then◌else◌}
use Rattle.std.proofs.lemmas.Bool.Decides.{nat_tests}
use Rattle.net_random.specs.declared.bounds.NetworkBounds.{NetworkBounds}
use Rattle.net_random.specs.declared.random_network.RandomNetwork.{RandomNetwork}
use Rattle.net_random.specs.declared.fault.RandomFault.TheVariants.{NodeCount, TooManyLinks, OddEnds}
use Rattle.net_random.specs.RandomNetworks.{node_count, pair_count, link_count, has_odd_ends}
use Rattle.net_random.specs.Sizes.{refusal_in}

pub record IsSized (bounds : NetworkBounds) (wanted : RandomNetwork) : Type 0 where
  pub some : 1 ≤ node_count wanted
  pub small : node_count wanted ≤ bounds.nodes
  pub few : link_count wanted ≤ bounds.links
  pub room : link_count wanted ≤ pair_count (node_count wanted)

passed : (a b c : Bool) → (if a then Some NodeCount else if b then Some TooManyLinks else if c then Some OddEnds else None) ≡ None → (a ≡ false) × (b ≡ false)
passed true b c h = cc
passed false true c h = cc
passed false false c h = (refl, refl)

pub sized : (bounds : NetworkBounds) (wanted : RandomNetwork) → refusal_in bounds wanted ≡ None → IsSized bounds wanted
sized bounds wanted h =
    let p = passed (nat_lt (node_count wanted) 1 || nat_lt bounds.nodes (node_count wanted)) (nat_lt bounds.links (link_count wanted) || nat_lt (pair_count (node_count wanted)) (link_count wanted)) (has_odd_ends wanted) h in
    let none = p.0 in
    let all = p.1 in
    record {
      some = grind (arith, nat_tests);
      small = grind (arith, nat_tests);
      few = grind (arith, nat_tests);
      room = grind (arith, nat_tests);
    }
