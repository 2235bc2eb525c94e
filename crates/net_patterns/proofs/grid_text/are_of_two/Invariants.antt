use Rattle.std.proofs.Common.{◌≡◌, drop, nat_le}
use Rattle.std.specs.List.{list_all}
use Rattle.net_patterns.proofs.grid_text.are_of_two.Given as goal

abbrev pub invariant-loop-value : goal.invariant-loop-value
invariant-loop-value l = list_all (λ v. nat_le v 1) (drop l.value-index l.values) ≡ list_all (λ v. nat_le v 1) l.values
