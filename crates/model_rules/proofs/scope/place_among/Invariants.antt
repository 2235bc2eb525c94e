use Rattle.std.proofs.Common.{◌≡◌, ◌+◌, drop}
use Rattle.std.specs.Prelude.{map}
use Rattle.rule_check.specs.Value.{place}
use Rattle.rule_check.specs.WellFormed.{is_among}
use Rattle.model_text.specs.View.{name_of}
use Rattle.model_rules.specs.Models.{bare}
use Rattle.model_rules.proofs.scope.place_among.Given as goal

abbrev pub invariant-loop-k : goal.invariant-loop-k
invariant-loop-k l =
    record {
      place : place (bare (map name_of l.names)) l.name ≡ l.k + place (bare (map name_of (drop l.k l.names))) l.name;
      among : is_among (bare (map name_of (drop l.k l.names))) l.name ≡ is_among (bare (map name_of l.names)) l.name;
    }
