use Rattle.std.proofs.Common.{◌≡◌, ◌∙◌, ◌<◌, Some, sym, ap, subst, length, option_map}
use Rattle.std.specs.Prelude.{IfSome}
use Rattle.rule_lang.specs.View.{items_of}
use Rattle.rule_check.specs.WellFormed.{first_fault}
use Rattle.rule_check.specs.Items.{fields_of, rules_of}
use Rattle.rule_check.specs.Causes.{fault_of, IsCause}
use Rattle.rule_check.proofs.Agreed.{told, passed, few, at_some}
use Rattle.rule_check.proofs.diagnosis.diagnose.Goals as goal

pub returns-in-Some-clause-agrees : goal.returns-in-Some-clause-agrees
returns-in-Some-clause-agrees c =
    let e : Some (fault_of c.in-Some.cause) ≡ first_fault (rules_of (items_of c.items-items.result.now)) = (told _ _ c.too_many_fields.result c.in-Some.cause _ c.too_many_fields.ensures.agrees c.in-Some.is) in
    e ∙ ap (λ is. first_fault (rules_of is)) c.items-items.ensures.same

pub returns-in-Some-clause-named : goal.returns-in-Some-clause-named
returns-in-Some-clause-named c = subst (λ is. IsCause is c.in-Some.cause) c.items-items.ensures.same (at_some (IsCause (items_of c.items-items.result.now)) c.too_many_fields.result c.in-Some.cause c.too_many_fields.ensures.named c.in-Some.is)

pub returns-in-Some-2-clause-agrees : goal.returns-in-Some-2-clause-agrees
returns-in-Some-2-clause-agrees c =
    let e : Some (fault_of c.in-Some-2.cause) ≡ first_fault (rules_of (items_of c.items-items.result.now)) = (passed _ _ c.too_many_fields.result _ _ c.too_many_fields.ensures.agrees c.in_default.is (told _ _ c.in_ok-cause.field-0 c.in-Some-2.cause _ c.in_ok-cause.ensures.agrees c.in-Some-2.is)) in
    e ∙ ap (λ is. first_fault (rules_of is)) c.items-items.ensures.same

pub returns-in-Some-2-clause-named : goal.returns-in-Some-2-clause-named
returns-in-Some-2-clause-named c = subst (λ is. IsCause is c.in-Some-2.cause) c.items-items.ensures.same (at_some (IsCause (items_of c.items-items.result.now)) c.in_ok-cause.field-0 c.in-Some-2.cause c.in_ok-cause.ensures.named c.in-Some-2.is)

pub returns-in-Some-3-clause-agrees : goal.returns-in-Some-3-clause-agrees
returns-in-Some-3-clause-agrees c =
    let e : Some (fault_of c.in-Some-3.cause) ≡ first_fault (rules_of (items_of c.items-items.result.now)) = (passed _ _ c.too_many_fields.result _ _ c.too_many_fields.ensures.agrees c.in_default.is (passed _ _ c.in_ok-cause.field-0 _ _ c.in_ok-cause.ensures.agrees c.in_default-2.is (told _ _ c.in_ok-cause-2.field-0 c.in-Some-3.cause _ c.in_ok-cause-2.ensures.agrees c.in-Some-3.is))) in
    e ∙ ap (λ is. first_fault (rules_of is)) c.items-items.ensures.same

pub returns-in-Some-3-clause-named : goal.returns-in-Some-3-clause-named
returns-in-Some-3-clause-named c = subst (λ is. IsCause is c.in-Some-3.cause) c.items-items.ensures.same (at_some (IsCause (items_of c.items-items.result.now)) c.in_ok-cause-2.field-0 c.in-Some-3.cause c.in_ok-cause-2.ensures.named c.in-Some-3.is)

pub returns-in-Some-4-clause-agrees : goal.returns-in-Some-4-clause-agrees
returns-in-Some-4-clause-agrees c =
    let e : Some (fault_of c.in-Some-4.cause) ≡ first_fault (rules_of (items_of c.items-items.result.now)) = (passed _ _ c.too_many_fields.result _ _ c.too_many_fields.ensures.agrees c.in_default.is (passed _ _ c.in_ok-cause.field-0 _ _ c.in_ok-cause.ensures.agrees c.in_default-2.is (passed _ _ c.in_ok-cause-2.field-0 _ _ c.in_ok-cause-2.ensures.agrees c.in_default-3.is (told _ _ c.in_ok-cause-3.field-0 c.in-Some-4.cause _ c.in_ok-cause-3.ensures.agrees c.in-Some-4.is)))) in
    e ∙ ap (λ is. first_fault (rules_of is)) c.items-items.ensures.same

pub returns-in-Some-4-clause-named : goal.returns-in-Some-4-clause-named
returns-in-Some-4-clause-named c = subst (λ is. IsCause is c.in-Some-4.cause) c.items-items.ensures.same (at_some (IsCause (items_of c.items-items.result.now)) c.in_ok-cause-3.field-0 c.in-Some-4.cause c.in_ok-cause-3.ensures.named c.in-Some-4.is)

pub returns-in_err-cause-clause-many : goal.returns-in_err-cause-clause-many
returns-in_err-cause-clause-many c = λ h. absurd (few (length (fields_of (items_of c.items-items.result.now))) _ c.too_many_fields.result c.too_many_fields.ensures.agrees c.in_default.is (subst (λ is. 8 < length (fields_of is)) (sym c.items-items.ensures.same) h))

pub returns-in_err-cause-2-clause-many : goal.returns-in_err-cause-2-clause-many
returns-in_err-cause-2-clause-many c = λ h. absurd (few (length (fields_of (items_of c.items-items.result.now))) _ c.too_many_fields.result c.too_many_fields.ensures.agrees c.in_default.is (subst (λ is. 8 < length (fields_of is)) (sym c.items-items.ensures.same) h))

pub returns-in_err-cause-3-clause-many : goal.returns-in_err-cause-3-clause-many
returns-in_err-cause-3-clause-many c = λ h. absurd (few (length (fields_of (items_of c.items-items.result.now))) _ c.too_many_fields.result c.too_many_fields.ensures.agrees c.in_default.is (subst (λ is. 8 < length (fields_of is)) (sym c.items-items.ensures.same) h))

pub returns-clause-agrees : goal.returns-clause-agrees
returns-clause-agrees c =
    let e : option_map fault_of c.ill_formed.result ≡ first_fault (rules_of (items_of c.items-items.result.now)) = (passed _ _ c.too_many_fields.result _ _ c.too_many_fields.ensures.agrees c.in_default.is (passed _ _ c.in_ok-cause.field-0 _ _ c.in_ok-cause.ensures.agrees c.in_default-2.is (passed _ _ c.in_ok-cause-2.field-0 _ _ c.in_ok-cause-2.ensures.agrees c.in_default-3.is (passed _ _ c.in_ok-cause-3.field-0 _ _ c.in_ok-cause-3.ensures.agrees c.in_default-4.is c.ill_formed.ensures.agrees)))) in
    e ∙ ap (λ is. first_fault (rules_of is)) c.items-items.ensures.same

pub returns-clause-named : goal.returns-clause-named
returns-clause-named c = subst (λ is. IfSome c.ill_formed.result (IsCause is)) c.items-items.ensures.same c.ill_formed.ensures.named
