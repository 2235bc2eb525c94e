use Rattle.std.proofs.Common.{◌≡◌, ℕ, List, [], ◌∷◌, ◌++◌, sym, ap, ◌∙◌, subst}
use Rattle.std.specs.Prelude.{map, string_bytes, Option, Some, None}
use Rattle.std.specs.List.{AllByRecursion}
use Rattle.std.specs.Option.{option_map}
use Rattle.std.proofs.lemmas.List.{map_push}
use Rattle.std.proofs.lemmas.Result.{err_from_is_err_and}
use Rattle.rule_lang.specs.declared.tree.Item.{Item as Rule}
use Rattle.rule_lang.specs.Tree.{ItemTree as RuleTree}
use Rattle.rule_lang.specs.View.{item_of as rule_item, items_of as rules_of}
use Rattle.rule_check.proofs.Repeats.{none_of}
use Rattle.model_text.specs.View.{item_of, items_of}
use Rattle.model_rules.specs.Bounds.{IsFitRule, size_cause}
use Rattle.model_rules.specs.Expansions.{Expands, IsRuleOf}
use Rattle.model_rules.specs.Faults.{rule_for}
use Rattle.model_rules.specs.FirstFaults.{told_at}
use Rattle.model_rules.specs.ScopeView.{frame_of, later_of}
use Rattle.model_rules.proofs.Sound.{expands_more, expands_none}
use Rattle.model_rules.proofs.Fits.{fit_more}
use Rattle.model_rules.proofs.Behind.{made_more, made_same, within_size, item_none, item_large, item_wrong}
use Rattle.model_rules.proofs.rules.add_rule.Goals as goal

pub returns-clause-expands : goal.returns-clause-expands
returns-clause-expands c = λ before h.
    let model = items_of c.args.items.now in
    let f = frame_of c.args.scope.now in
    let rule = c.in-Some.rule in
    let old = c.args.expansion.now.rules.items in
    let e : rules_of c.add.new.self.rules.items ≡ rules_of old ++ rule_item rule ∷ [] = ap rules_of c.in_ok-add.ensures.added ∙ map_push rule_item old rule in
    let r : IsRuleOf model f (item_of c.args.item.now) (Some (rule_item rule)) =
    subst (λ (o : Option Rule). IsRuleOf model f (item_of c.args.item.now) (option_map rule_item o)) c.in-Some.is c.in_ok-found.ensures.exact in
    subst (λ (rs : List RuleTree). Expands model f (before ++ item_of c.args.item.now ∷ []) rs) (sym e)
    (expands_more model f before (rules_of old) (item_of c.args.item.now) (rule_item rule) h r)

pub returns-clause-fit : goal.returns-clause-fit
returns-clause-fit c = λ h.
    let names = map string_bytes c.args.scope.now.fields.items in
    let rule = c.in-Some.rule in
    let old = c.args.expansion.now.rules.items in
    let e : rules_of c.add.new.self.rules.items ≡ rules_of old ++ rule_item rule ∷ [] = ap rules_of c.in_ok-add.ensures.added ∙ map_push rule_item old rule in
    subst (λ (rs : List RuleTree). AllByRecursion (IsFitRule names) rs) (sym e)
    (fit_more names (rules_of old) (rule_item rule) h (rw c.in-Some.is at c.in_ok-found.ensures.fit))

pub returns-in_default-clause-expands : goal.returns-in_default-clause-expands
returns-in_default-clause-expands c = λ before h.
    let model = items_of c.args.items.now in
    let f = frame_of c.args.scope.now in
    let r : IsRuleOf model f (item_of c.args.item.now) None =
    subst (λ (o : Option Rule). IsRuleOf model f (item_of c.args.item.now) (option_map rule_item o)) (none_of c.in_ok-found.found c.in_default.not-Some) c.in_ok-found.ensures.exact in
    expands_none model f before (rules_of c.args.expansion.now.rules.items) (item_of c.args.item.now) h r

pub returns-clause-made : goal.returns-clause-made
returns-clause-made c = λ before e.
    let f = frame_of c.args.scope.now in
    let item = item_of c.args.item.now in
    let rule = c.in-Some.rule in
    let old = c.args.expansion.now.rules.items in
    let q : rule_for f item ≡ Some (rule_item rule) = sym c.in_ok-found.ensures.made ∙ ap (λ (o : Option Rule). option_map rule_item o) c.in-Some.is in
    (ap rules_of c.in_ok-add.ensures.added ∙ map_push rule_item old rule) ∙ made_more f before (rules_of old) item (rule_item rule) e q

pub returns-in_default-clause-made : goal.returns-in_default-clause-made
returns-in_default-clause-made c = λ before e.
    let f = frame_of c.args.scope.now in
    let item = item_of c.args.item.now in
    let q : rule_for f item ≡ None = sym c.in_ok-found.ensures.made ∙ ap (λ (o : Option Rule). option_map rule_item o) (none_of c.in_ok-found.found c.in_default.not-Some) in
    made_same f before (rules_of c.args.expansion.now.rules.items) item e q

pub returns-clause-faultless : goal.returns-clause-faultless
returns-clause-faultless c = λ before e h.
    let model = items_of c.args.items.now in
    let f = frame_of c.args.scope.now in
    let item = item_of c.args.item.now in
    let rule = c.in-Some.rule in
    let old = c.args.expansion.now.rules.items in
    let q : rule_for f item ≡ Some (rule_item rule) = sym c.in_ok-found.ensures.made ∙ ap (λ (o : Option Rule). option_map rule_item o) c.in-Some.is in
    item_none model f (later_of c.args.scope.now) before item (rules_of old ++ rule_item rule ∷ []) (made_more f before (rules_of old) item (rule_item rule) e q) c.in_ok-found.ensures.faultless (c.in_ok-add.ensures.faultless h)

pub returns-in_default-clause-faultless : goal.returns-in_default-clause-faultless
returns-in_default-clause-faultless c = λ before e h.
    let model = items_of c.args.items.now in
    let f = frame_of c.args.scope.now in
    let item = item_of c.args.item.now in
    let old = c.args.expansion.now.rules.items in
    let q : rule_for f item ≡ None = sym c.in_ok-found.ensures.made ∙ ap (λ (o : Option Rule). option_map rule_item o) (none_of c.in_ok-found.found c.in_default.not-Some) in
    item_none model f (later_of c.args.scope.now) before item (rules_of old) (made_same f before (rules_of old) item e q) c.in_ok-found.ensures.faultless (within_size (rules_of old) h.within)

pub returns-in_err-add-clause-refused : goal.returns-in_err-add-clause-refused
returns-in_err-add-clause-refused c = λ before e h.
    let p = err_from_is_err_and c.from_residual-in_err-add.result c.from_residual-in_err-add.ensures.1 in
    let model = items_of c.args.items.now in
    let f = frame_of c.args.scope.now in
    let item = item_of c.args.item.now in
    let rule = c.in-Some.rule in
    let old = c.args.expansion.now.rules.items in
    let q : rule_for f item ≡ Some (rule_item rule) = sym c.in_ok-found.ensures.made ∙ ap (λ (o : Option Rule). option_map rule_item o) c.in-Some.is in
    rw (p.1, p.2)
    (λ m. item_large model f (later_of c.args.scope.now) before item (rules_of old ++ rule_item rule ∷ []) _ (made_more f before (rules_of old) item (rule_item rule) e q) c.in_ok-found.ensures.faultless (ap (λ (at : ℕ). told_at at (size_cause (rules_of old ++ rule_item rule ∷ []))) (sym c.item_place.ensures.exact) ∙ c.in_err-add.ensures.refused h m))

pub returns-in_err-found-clause-refused : goal.returns-in_err-found-clause-refused
returns-in_err-found-clause-refused c = λ before e h.
    let p = err_from_is_err_and c.from_residual.result c.from_residual.ensures.1 in
    rw (p.1, p.2)
    (λ m. item_wrong (items_of c.args.items.now) (frame_of c.args.scope.now) (later_of c.args.scope.now) before (item_of c.args.item.now) _ (c.in_err-found.ensures.refused m))
