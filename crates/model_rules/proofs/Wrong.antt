-- The first fault of a model, by where it was found.
use Rattle.std.proofs.Common.{◌≡◌, ℕ, List, [], refl, sym, ap, ◌∙◌, subst}
use Rattle.std.specs.Prelude.{Option, Some, None, ◌≢◌, map, string_bytes}
use Rattle.std.specs.Option.{option_or}
use Rattle.model_text.specs.Tree.{ItemTree}
use Rattle.model_rules.specs.declared.fault.ExpandFault.{ExpandFault}
use Rattle.model_rules.specs.declared.fault.ExpandFault.TheVariants as fault
use Rattle.model_rules.specs.declared.scope.Scope.{Scope}
use Rattle.model_rules.specs.Frames.{KnownTree, Frame}
use Rattle.model_rules.specs.Models.{GivenTree, draws_of, fields_of}
use Rattle.model_rules.specs.Naming.{naming_fault}
use Rattle.model_rules.specs.ScopeView.{frame_of, knowns_of, later_of}
use Rattle.model_rules.specs.Definitions.{names_defined, frame_in, settled, seed_first, defining_fault}
use Rattle.model_rules.specs.Faults.{items_fault, rules_made}
use Rattle.model_rules.specs.Programs.{program_made}
use Rattle.model_rules.specs.FirstFaults.{IsFirst}
use Rattle.model_rules.specs.ModelFaults.{model_fault}

-- what is known in the end
frame_is : (items : List ItemTree) (scope : Scope) (lets : List KnownTree) → scope.draws.items ≡ draws_of items → map string_bytes scope.fields.items ≡ fields_of items → knowns_of scope.lets.items ≡ lets → map string_bytes scope.parameters.items ≡ [] → frame_of scope ≡ frame_in items lets []
frame_is items scope lets d f l p = rw (d, f, l, p) refl

rules_is : (items : List ItemTree) (values : List GivenTree) (scope : Scope) → scope.draws.items ≡ draws_of items → map string_bytes scope.fields.items ≡ fields_of items → knowns_of scope.lets.items ≡ settled items values (seed_first items values) → map string_bytes scope.parameters.items ≡ [] → later_of scope ≡ names_defined items
    → items_fault items (frame_of scope) (later_of scope) [] items ≡ items_fault items (frame_in items (settled items values (seed_first items values)) []) (names_defined items) [] items
rules_is items values scope d f l p n =
    ap (λ (g : Frame). items_fault items g (later_of scope) [] items) (frame_is items scope (settled items values (seed_first items values)) d f l p)
    ∙ ap (λ (ns : List (List ℕ)). items_fault items (frame_in items (settled items values (seed_first items values)) []) ns [] items) n

-- the rules by what is known in the end
pub made_is : (items : List ItemTree) (values : List GivenTree) (scope : Scope) → scope.draws.items ≡ draws_of items → map string_bytes scope.fields.items ≡ fields_of items → knowns_of scope.lets.items ≡ settled items values (seed_first items values) → map string_bytes scope.parameters.items ≡ []
    → rules_made (frame_of scope) items ≡ program_made items values
made_is items values scope d f l p = ap (λ (g : Frame). rules_made g items) (frame_is items scope (settled items values (seed_first items values)) d f l p)

-- after those of names
behind : (a b c : Option ExpandFault) → a ≡ None → b ≡ None → option_or a (option_or b c) ≡ c
behind a b c h g = ap (λ (o : Option ExpandFault). option_or o (option_or b c)) h ∙ ap (λ (o : Option ExpandFault). option_or o c) g

pub by_names : (items : List ItemTree) (values : List GivenTree) (e : ExpandFault) → (e ≢ fault.Memory → naming_fault items values ≡ Some e) → IsFirst (model_fault items values) e
by_names items values e h = λ m.
    ap (λ (o : Option ExpandFault). option_or o (option_or (defining_fault items values (seed_first items values)) (items_fault items (frame_in items (settled items values (seed_first items values)) []) (names_defined items) [] items))) (h m)

pub by_definitions : (items : List ItemTree) (values : List GivenTree) (e : ExpandFault) → naming_fault items values ≡ None → IsFirst (defining_fault items values (seed_first items values)) e → IsFirst (model_fault items values) e
by_definitions items values e n h = λ m.
    let rest = items_fault items (frame_in items (settled items values (seed_first items values)) []) (names_defined items) [] items in
    ap (λ (o : Option ExpandFault). option_or o (option_or (defining_fault items values (seed_first items values)) rest)) n
    ∙ ap (λ (o : Option ExpandFault). option_or o rest) (h m)

pub by_rules : (items : List ItemTree) (values : List GivenTree) (scope : Scope) (e : ExpandFault) → naming_fault items values ≡ None → defining_fault items values (seed_first items values) ≡ None
    → scope.draws.items ≡ draws_of items → map string_bytes scope.fields.items ≡ fields_of items → knowns_of scope.lets.items ≡ settled items values (seed_first items values) → map string_bytes scope.parameters.items ≡ [] → later_of scope ≡ names_defined items
    → IsFirst (items_fault items (frame_of scope) (later_of scope) [] items) e → IsFirst (model_fault items values) e
by_rules items values scope e n g d f l p k h = λ m.
    behind (naming_fault items values) (defining_fault items values (seed_first items values)) (items_fault items (frame_in items (settled items values (seed_first items values)) []) (names_defined items) [] items) n g
    ∙ (sym (rules_is items values scope d f l p k) ∙ h m)

pub by_none : (items : List ItemTree) (values : List GivenTree) (scope : Scope) → naming_fault items values ≡ None → defining_fault items values (seed_first items values) ≡ None
    → scope.draws.items ≡ draws_of items → map string_bytes scope.fields.items ≡ fields_of items → knowns_of scope.lets.items ≡ settled items values (seed_first items values) → map string_bytes scope.parameters.items ≡ [] → later_of scope ≡ names_defined items
    → items_fault items (frame_of scope) (later_of scope) [] items ≡ None → model_fault items values ≡ None
by_none items values scope n g d f l p k h =
    behind (naming_fault items values) (defining_fault items values (seed_first items values)) (items_fault items (frame_in items (settled items values (seed_first items values)) []) (names_defined items) [] items) n g
    ∙ (sym (rules_is items values scope d f l p k) ∙ h)

-- the fault of constants, states and lets, where these lets are the first
pub first_same : (items : List ItemTree) (values : List GivenTree) (lets other : List KnownTree) (e : ExpandFault) → lets ≡ other → IsFirst (defining_fault items values lets) e → IsFirst (defining_fault items values other) e
first_same items values lets other e q h = subst (λ (ks : List KnownTree). IsFirst (defining_fault items values ks) e) q h
