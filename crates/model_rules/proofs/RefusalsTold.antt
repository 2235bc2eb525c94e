-- A model is refused for the fault that the functions find which go the expander's way, and for no other.
use Rattle.std.proofs.Common.{◌≡◌, ◌⊎◌, inl, inr, List, [], refl, sym, ap, ◌∙◌, subst}
use Rattle.std.specs.Prelude.{Option, Some, None}
use Rattle.std.specs.Option.{option_or}
use Rattle.rule_lang.specs.Tree.{ItemTree as RuleTree}
use Rattle.model_text.specs.Tree.{ItemTree}
use Rattle.model_rules.specs.declared.fault.ExpandFault.{ExpandFault}
use Rattle.model_rules.specs.Frames.{KnownTree}
use Rattle.model_rules.specs.Models.{GivenTree}
use Rattle.model_rules.specs.Naming.{naming_fault}
use Rattle.model_rules.specs.Definitions.{names_defined, frame_in, settled, seed_first, defining_fault}
use Rattle.model_rules.specs.Faults.{items_fault, rules_made}
use Rattle.model_rules.specs.Programs.{program_made}
use Rattle.model_rules.specs.FirstFaults.{IsFirst}
use Rattle.model_rules.specs.ModelFaults.{model_fault}
use Rattle.model_rules.specs.Faulty.{OrElse, IsRuleFault, IsFirstRuleFault}
use Rattle.model_rules.specs.Courses.{IsDefiningFault}
use Rattle.model_rules.specs.ModelRefusals.{IsNamingFault, IsItemsFault, IsRefusedFor, IsFirstRefusal, IsSound, IsProgramMade, OneRefusal, OneProgramMade, OneVerdict}
use Rattle.model_rules.proofs.FirstInOrder.{none_some, some_none}
use Rattle.model_rules.proofs.FaultyTold.{Gives, gives_or, gives_one, items_give, items_right}
use Rattle.model_rules.proofs.CoursesTold.{defining_told, defining_back, defined_told, defined_back}

module _ (items : List ItemTree) (values : List GivenTree) where
  abbrev lets : List KnownTree
  lets = settled items values (seed_first items values)

  abbrev rules_fault : Option ExpandFault
  rules_fault = items_fault items (frame_in items lets []) (names_defined items) [] items

  naming_gives : Gives (naming_fault items values) (IsNamingFault items values)
  naming_gives = (λ e h. h, λ e h. h)

  items_told : (e : ExpandFault) → defining_fault items values (seed_first items values) ≡ None → rules_fault ≡ Some e → IsItemsFault items values e
  items_told e n h = (lets, defined_told items values n, (items_give items (frame_in items lets []) (names_defined items)).0 e h)

  items_back : (e : ExpandFault) → IsItemsFault items values e → rules_fault ≡ Some e
  items_back e h =
      let same = (defined_back items values h.0 h.1).0 in
      (items_give items (frame_in items lets []) (names_defined items)).1 e
      (subst (λ (ks : List KnownTree). IsFirstRuleFault (frame_in items ks []) (names_defined items) items e) same h.2)

  rest_case : (o : Option ExpandFault) → defining_fault items values (seed_first items values) ≡ o → Gives (option_or o rules_fault) (OrElse (IsDefiningFault items values) (IsItemsFault items values))
  rest_case None n = (
    λ e h. inr (λ x d. none_some (sym n ∙ defining_back items values x d), items_told e n h),
    λ e w. elim w [ inl d ↦ none_some (sym n ∙ defining_back items values e d) | inr r ↦ items_back e r.1 ],
  )
  rest_case (Some x) n = (
    λ e h. inl (defining_told items values e (n ∙ h)),
    λ e w. elim w [ inl d ↦ sym n ∙ defining_back items values e d | inr r ↦ absurd (r.0 x (defining_told items values x n)) ],
  )

  pub model_gives : Gives (model_fault items values) (IsRefusedFor items values)
  model_gives =
      gives_or (naming_fault items values) (option_or (defining_fault items values (seed_first items values)) rules_fault) (IsNamingFault items values) (OrElse (IsDefiningFault items values) (IsItemsFault items values))
      naming_gives (rest_case (defining_fault items values (seed_first items values)) refl)

  or_both : (a b : Option ExpandFault) → option_or a b ≡ None → (a ≡ None) × (b ≡ None)
  or_both None b h = (refl, h)
  or_both (Some x) b h = some_none h

  pub model_sound : model_fault items values ≡ None → IsSound items values
  model_sound h =
      let p = or_both (naming_fault items values) (option_or (defining_fault items values (seed_first items values)) rules_fault) h in
      let q = or_both (defining_fault items values (seed_first items values)) rules_fault p.1 in
      record { named = p.0; lets = lets; defined = defined_told items values q.0; right = items_right items (frame_in items lets []) (names_defined items) q.1 }

  pub sound_none : IsSound items values → (e : ExpandFault) → IsRefusedFor items values e → ⊥
  sound_none s e (inl w) = none_some (sym s.named ∙ w)
  sound_none s e (inr w) = elim (w.1) [
    | inl d ↦ none_some (sym (defined_back items values s.lets s.defined).1 ∙ defining_back items values e d)
    | inr r ↦
        (let i = r.1 in
        let f = i.2 in
        let same : i.0 ≡ s.lets = (defined_back items values i.0 i.1).0 ∙ sym (defined_back items values s.lets s.defined).0 in
        s.right f.passed f.item f.behind e f.cut (subst (λ (ks : List KnownTree). IsRuleFault items (frame_in items ks []) (names_defined items) f.passed f.item e) same f.wrong))
  ]

  verdict_case : (o : Option ExpandFault) → model_fault items values ≡ o → IsSound items values ⊎ ((e : ExpandFault) × IsRefusedFor items values e)
  verdict_case None h = inl (model_sound h)
  verdict_case (Some e) h = inr (e, model_gives.0 e h)

pub program_same : (items : List ItemTree) (values : List GivenTree) (rules : List RuleTree) → IsProgramMade items values rules → rules ≡ program_made items values
program_same items values rules p =
    p.made ∙ ap (λ (ks : List KnownTree). rules_made (frame_in items ks []) items) (defined_back items values p.lets p.defined).0

pub is_program : (items : List ItemTree) (values : List GivenTree) (rules : List RuleTree) → defining_fault items values (seed_first items values) ≡ None → rules ≡ program_made items values → IsProgramMade items values rules
is_program items values rules n e = record { lets = lets items values; defined = defined_told items values n; made = e }

pub one_program : OneProgramMade
one_program items values one other p q = program_same items values one p ∙ sym (program_same items values other q)

pub one_refusal : OneRefusal
one_refusal items values one other p q = gives_one (model_fault items values) (IsRefusedFor items values) (model_gives items values) one other p q

pub one_verdict : OneVerdict
one_verdict items values = (verdict_case items values (model_fault items values) refl, sound_none items values)

-- at the call
pub first_refused : (items : List ItemTree) (values : List GivenTree) (e : ExpandFault) → IsFirst (model_fault items values) e → IsFirstRefusal items values e
first_refused items values e h = λ m. (model_gives items values).0 e (h m)
