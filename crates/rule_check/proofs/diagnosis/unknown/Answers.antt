use Rattle.std.proofs.Common.{◌≡◌, ◌∙◌, Some, None, true, false, sym, ap, slice_get, string_bytes}
use Rattle.std.specs.List.{list_any}
use Rattle.rule_lang.specs.View.{item_of, items_of}
use Rattle.rule_check.specs.declared.fault.CheckFault.TheVariants.{UnknownName}
use Rattle.rule_check.specs.Value.{names_of}
use Rattle.rule_check.specs.WellFormed.{is_among, is_unknown}
use Rattle.rule_check.specs.Items.{nexts_of, rules_of}
use Rattle.rule_check.specs.Fields.{field_names}
use Rattle.rule_check.specs.Causes.{is_next, first_next, IsNextWith, first_foreign}
use Rattle.rule_check.specs.Searches.{foreign_of}
use Rattle.rule_check.proofs.Searches.{any_next, found, tree_at}
use Rattle.rule_check.proofs.Agreed.{holds, fails, at_found, target_unknown, name_unknown}
use Rattle.rule_check.proofs.diagnosis.unknown.Goals as goal

pub returns-in-Some-foreign_in-clause-agrees : goal.returns-in-Some-foreign_in-clause-agrees
returns-in-Some-foreign_in-clause-agrees c =
    let items = items_of c.args.items.now in
    let names = names_of (rules_of items) in
    let known : field_names c.deref.result.now ≡ names = ap field_names (c.deref.ensures.value ∙ c.in_ok-fields.ensures.exact) in
    let place : first_next (is_unknown names) items ≡ Some c.in-Some.item = ap (λ ns. first_next (is_unknown ns) items) (sym known) ∙ sym c.in-Some.ensures.exact in
    holds (list_any (is_unknown names) (nexts_of items)) UnknownName (first_next (is_unknown names) items) c.in-Some.item (any_next (is_unknown names) 0 items) place

pub returns-in-Some-foreign_in-clause-named : goal.returns-in-Some-foreign_in-clause-named
returns-in-Some-foreign_in-clause-named c =
    let items = items_of c.args.items.now in
    let names = names_of (rules_of items) in
    let k = c.in-Some.item in
    let item = item_of c.index-items-item.result in
    let name = string_bytes c.in_ok-name-in-Some-foreign_in.name in
    let known : field_names c.deref.result.now ≡ names = ap field_names (c.deref.ensures.value ∙ c.in_ok-fields.ensures.exact) in
    let also : field_names c.deref-in-Some.result.now ≡ names = ap field_names (c.deref-in-Some.ensures.value ∙ c.in_ok-fields.ensures.exact) in
    let place : first_next (is_unknown names) items ≡ Some k = ap (λ ns. first_next (is_unknown ns) items) (sym known) ∙ sym c.in-Some.ensures.exact in
    let at : slice_get items k ≡ Some item = tree_at c.args.items.now k c.index-items-item.result c.in-Some.ensures.within ∙ ap (λ i. Some (item_of i)) (sym c.index-items-item.is) in
    let foreign : foreign_of names item ≡ Some name = ap (λ ns. foreign_of ns item) (sym also) ∙ sym c.in-Some-foreign_in.ensures.exact ∙ ap (λ n. Some n) (sym c.in_ok-name-in-Some-foreign_in.ensures.ok) in
    (place, at_found (slice_get items k) item (λ i. is_next (is_unknown names) i ≡ true) (IsNextWith (λ n. first_foreign names n.body ≡ Some name)) at (λ h. name_unknown names item name foreign) (found (is_next (is_unknown names)) items k place).passes)

pub returns-in-Some-clause-agrees : goal.returns-in-Some-clause-agrees
returns-in-Some-clause-agrees c =
    let items = items_of c.args.items.now in
    let names = names_of (rules_of items) in
    let known : field_names c.deref.result.now ≡ names = ap field_names (c.deref.ensures.value ∙ c.in_ok-fields.ensures.exact) in
    let place : first_next (is_unknown names) items ≡ Some c.in-Some.item = ap (λ ns. first_next (is_unknown ns) items) (sym known) ∙ sym c.in-Some.ensures.exact in
    holds (list_any (is_unknown names) (nexts_of items)) UnknownName (first_next (is_unknown names) items) c.in-Some.item (any_next (is_unknown names) 0 items) place

pub returns-in-Some-clause-named : goal.returns-in-Some-clause-named
returns-in-Some-clause-named c =
    let items = items_of c.args.items.now in
    let names = names_of (rules_of items) in
    let k = c.in-Some.item in
    let item = item_of c.index-items-item.result in
    let known : field_names c.deref.result.now ≡ names = ap field_names (c.deref.ensures.value ∙ c.in_ok-fields.ensures.exact) in
    let also : field_names c.deref-in-Some.result.now ≡ names = ap field_names (c.deref-in-Some.ensures.value ∙ c.in_ok-fields.ensures.exact) in
    let place : first_next (is_unknown names) items ≡ Some k = ap (λ ns. first_next (is_unknown ns) items) (sym known) ∙ sym c.in-Some.ensures.exact in
    let at : slice_get items k ≡ Some item = tree_at c.args.items.now k c.index-items-item.result c.in-Some.ensures.within ∙ ap (λ i. Some (item_of i)) (sym c.index-items-item.is) in
    let none : foreign_of names item ≡ None = ap (λ ns. foreign_of ns item) (sym also) ∙ sym c.in-None-foreign_in.ensures.exact in
    (place, at_found (slice_get items k) item (λ i. is_next (is_unknown names) i ≡ true) (IsNextWith (λ n. is_among names n.name ≡ false)) at (λ h. target_unknown names item h none) (found (is_next (is_unknown names)) items k place).passes)

pub returns-clause-agrees : goal.returns-clause-agrees
returns-clause-agrees c =
    let items = items_of c.args.items.now in
    let names = names_of (rules_of items) in
    let known : field_names c.deref.result.now ≡ names = ap field_names (c.deref.ensures.value ∙ c.in_ok-fields.ensures.exact) in
    let place : first_next (is_unknown names) items ≡ None = ap (λ ns. first_next (is_unknown ns) items) (sym known) ∙ sym c.in-None.ensures.exact in
    fails (list_any (is_unknown names) (nexts_of items)) UnknownName (first_next (is_unknown names) items) (any_next (is_unknown names) 0 items) place
