use Rattle.std.proofs.Common.{◌≡◌}
use Rattle.std.specs.Prelude.{map, string_bytes, None}
use Rattle.model_text.specs.View.{items_of}
use Rattle.model_rules.specs.Definitions.{names_defined, known_after, stop_after, last_after}
use Rattle.model_rules.specs.ScopeView.{IsScopeOf, knowns_of, givens_of, setting_in}
use Rattle.model_rules.specs.Expansions.{AreStable}
use Rattle.model_rules.proofs.define.define_all.Given as goal

abbrev pub invariant-loop-round : goal.invariant-loop-round
invariant-loop-round l =
    record {
      fields : l.scope.fields ≡ l.fn.scope.fields;
      draws : l.scope.draws ≡ l.fn.scope.draws;
      later : l.scope.later ≡ l.fn.scope.later;
      stable : AreStable (items_of l.items) (setting_in (givens_of l.given) l.fn.scope) (map string_bytes l.fn.scope.fields.items) (knowns_of l.fn.scope.lets.items) → AreStable (items_of l.items) (setting_in (givens_of l.given) l.fn.scope) (map string_bytes l.fn.scope.fields.items) (knowns_of l.scope.lets.items);
      known : IsScopeOf (items_of l.items) l.fn.scope → map string_bytes l.names ≡ names_defined (items_of l.items) → knowns_of l.scope.lets.items ≡ known_after (items_of l.items) (givens_of l.given) (knowns_of l.fn.scope.lets.items) l.round;
      going : IsScopeOf (items_of l.items) l.fn.scope → map string_bytes l.names ≡ names_defined (items_of l.items) → stop_after (items_of l.items) (givens_of l.given) (knowns_of l.fn.scope.lets.items) l.round ≡ None;
      last : IsScopeOf (items_of l.items) l.fn.scope → map string_bytes l.names ≡ names_defined (items_of l.items) → l.lacking ≡ last_after (items_of l.items) (givens_of l.given) (knowns_of l.fn.scope.lets.items) l.round;
    }
