use Rattle.std.proofs.Common.{◌≡◌, ◌+◌, drop}
use Rattle.std.specs.Prelude.{map, string_bytes}
use Rattle.rule_check.specs.Value.{place}
use Rattle.rule_check.specs.WellFormed.{is_among}
use Rattle.model_rules.proofs.scope.place_of.Given as goal

abbrev pub invariant-loop-k : goal.invariant-loop-k
invariant-loop-k l =
    record {
      places : place (map string_bytes (drop l.k l.names)) l.name + l.k ≡ place (map string_bytes l.names) l.name;
      among : is_among (map string_bytes (drop l.k l.names)) l.name ≡ is_among (map string_bytes l.names) l.name;
    }
