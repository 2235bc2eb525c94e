-- Scopes that keep their fields and draws, and lets that stay worth what the items tell.
use Rattle.std.proofs.Common.{◌≡◌, List, sym, ◌∙◌, subst}
use Rattle.std.specs.Prelude.{map, string_bytes}
use Rattle.model_text.specs.Tree.{ItemTree}
use Rattle.model_rules.specs.declared.scope.Scope.{Scope}
use Rattle.model_rules.specs.Models.{GivenTree}
use Rattle.model_rules.specs.Expansions.{AreStable}
use Rattle.model_rules.specs.ScopeView.{knowns_of, setting_in}

abbrev pub Kept : List ItemTree → List GivenTree → Scope → Scope → Type 0
Kept items given old now =
    (now.fields ≡ old.fields)
    × (now.draws ≡ old.draws)
    × (AreStable items (setting_in given old) (map string_bytes old.fields.items) (knowns_of old.lets.items) → AreStable items (setting_in given old) (map string_bytes old.fields.items) (knowns_of now.lets.items))

pub kept_on : (items : List ItemTree) (given : List GivenTree) (old now new : Scope) → Kept items given old now → Kept items given now new → Kept items given old new
kept_on items given old now new h k = (
  k.0 ∙ h.0,
  k.1 ∙ h.1,
  λ s. subst (λ ds. AreStable items (record { values = given; draws = ds.items }) (map string_bytes old.fields.items) (knowns_of new.lets.items)) h.1
      (subst (λ fs. AreStable items (setting_in given now) (map string_bytes fs.items) (knowns_of new.lets.items)) h.0
      (k.2 (subst (λ fs. AreStable items (setting_in given now) (map string_bytes fs.items) (knowns_of now.lets.items)) (sym h.0)
      (subst (λ ds. AreStable items (record { values = given; draws = ds.items }) (map string_bytes old.fields.items) (knowns_of now.lets.items)) (sym h.1) (h.2 s))))),
)
