-- What is known of a random network of any size that nothing refuses.
use Rattle.std.proofs.Common.{◌≡◌, ◌≤◌, Bool, true, false, ◌||◌, nat_lt, None, Some, refl, arith, if◌then◌else◌}
use Rattle.std.proofs.lemmas.Bool.Decides.{nat_tests}
use Rattle.link_net.specs.Limits.{most_rows}
use Rattle.net_random.specs.declared.fault.RandomFault.TheVariants.{NodeCount, TooManyLinks, OddEnds}
use Rattle.net_random.specs.declared.random_network.RandomNetwork.{RandomNetwork}
use Rattle.net_random.specs.RandomNetworks.{node_count, link_count, pair_count, has_odd_ends}
use Rattle.net_random.specs.Sizes.{large_bounds, most_large_links, refusal_in}

pub record IsFit (wanted : RandomNetwork) : Type 0 where
  pub some : 1 ≤ node_count wanted
  pub few : link_count wanted ≤ most_large_links

passed : (a b c : Bool) → (if a then Some NodeCount else if b then Some TooManyLinks else if c then Some OddEnds else None) ≡ None → (a ≡ false) × (b ≡ false)
passed true b c h = cc
passed false true c h = cc
passed false false true h = cc
passed false false false h = (refl, refl)

pub fit : (wanted : RandomNetwork) → refusal_in large_bounds wanted ≡ None → IsFit wanted
fit wanted h =
    let p = passed (nat_lt (node_count wanted) 1 || nat_lt most_rows (node_count wanted)) (nat_lt most_large_links (link_count wanted) || nat_lt (pair_count (node_count wanted)) (link_count wanted)) (has_odd_ends wanted) h in
    let nodes = p.0 in
    let links = p.1 in
    record { some = grind (arith, nat_tests); few = grind (arith, nat_tests) }
