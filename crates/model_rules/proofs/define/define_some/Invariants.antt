use Rattle.std.proofs.Common.{◌≡◌, drop}
use Rattle.std.specs.Prelude.{map, string_bytes}
use Rattle.std.specs.Option.{option_or}
use Rattle.model_text.specs.View.{items_of}
use Rattle.model_rules.specs.Definitions.{known_along, stop_along, last_along}
use Rattle.model_rules.specs.ScopeView.{IsScopeOf, knowns_of, givens_of, setting_in}
use Rattle.model_rules.specs.Expansions.{AreStable}
use Rattle.model_rules.proofs.define.define_some.Given as goal

abbrev pub invariant-loop-name : goal.invariant-loop-name
invariant-loop-name l =
    record {
      fields : l.scope.fields ≡ l.fn.scope.fields;
      draws : l.scope.draws ≡ l.fn.scope.draws;
      later : l.scope.later ≡ l.fn.scope.later;
      stable : AreStable (items_of l.items) (setting_in (givens_of l.given) l.fn.scope) (map string_bytes l.fn.scope.fields.items) (knowns_of l.fn.scope.lets.items) → AreStable (items_of l.items) (setting_in (givens_of l.given) l.fn.scope) (map string_bytes l.fn.scope.fields.items) (knowns_of l.scope.lets.items);
      known : IsScopeOf (items_of l.items) l.fn.scope → known_along (items_of l.items) (givens_of l.given) (knowns_of l.scope.lets.items) (map string_bytes (drop l.name-index l.names)) ≡ known_along (items_of l.items) (givens_of l.given) (knowns_of l.fn.scope.lets.items) (map string_bytes l.names);
      going : IsScopeOf (items_of l.items) l.fn.scope → stop_along (items_of l.items) (givens_of l.given) (knowns_of l.scope.lets.items) (map string_bytes (drop l.name-index l.names)) ≡ stop_along (items_of l.items) (givens_of l.given) (knowns_of l.fn.scope.lets.items) (map string_bytes l.names);
      last : IsScopeOf (items_of l.items) l.fn.scope → option_or (last_along (items_of l.items) (givens_of l.given) (knowns_of l.scope.lets.items) (map string_bytes (drop l.name-index l.names))) l.lacking ≡ last_along (items_of l.items) (givens_of l.given) (knowns_of l.fn.scope.lets.items) (map string_bytes l.names);
    }
