use Rattle.std.proofs.Common.{◌≡◌, suc, ◌+◌, List, [], ◌∷◌, ◌++◌, take, drop, sym, ap, ◌∙◌, subst}
use Rattle.std.proofs.lemmas.List.{map_push, map-append, take_more}
use Rattle.std.proofs.Math.Seq.{split_at}
use Rattle.std.proofs.lemmas.Result.{err_from_is_err_and}
use Rattle.model_text.specs.declared.tree.Item.{Item}
use Rattle.rule_lang.specs.View.{items_of as rules_of}
use Rattle.model_text.specs.Tree.{ItemTree}
use Rattle.model_text.specs.View.{item_of, items_of}
use Rattle.model_rules.specs.Expansions.{Expands}
use Rattle.model_rules.specs.ScopeView.{frame_of, later_of}
use Rattle.model_rules.specs.Faults.{rules_made, items_fault}
use Rattle.model_rules.proofs.Behind.{faults_more, first_here}
use Rattle.model_rules.proofs.rules.rules_for.Goals as goal

pub loop-item-preserved : goal.loop-item-preserved
loop-item-preserved c =
    let xs = c.args.items.now in
    let k = c.loop-item.item-index in
    let x = c.item-item.result in
    let up : take (k + 1) xs ≡ take k xs ++ x ∷ [] = take_more xs k x c.loop-item-test.true ∙ ap (λ d. take k xs ++ d ∷ []) (sym c.item-item.is) in
    let e : items_of (take (k + 1) xs) ≡ items_of (take k xs) ++ item_of x ∷ [] = ap items_of up ∙ map_push item_of (take k xs) x in
    record {
      expands = subst (λ (its : List ItemTree). Expands (items_of xs) (frame_of c.args.scope.now) its (rules_of c.add_rule.new.expansion.rules.items)) (sym e) (c.in_ok-add_rule.ensures.expands (items_of (take k xs)) c.loop-item.invariant.expands);
      fit = c.in_ok-add_rule.ensures.fit c.loop-item.invariant.fit;
      counted = c.in_ok-add_rule.ensures.counted c.loop-item.invariant.counted;
      made = c.in_ok-add_rule.ensures.made (items_of (take k xs)) c.loop-item.invariant.made ∙ ap (rules_made (frame_of c.args.scope.now)) (sym e);
      faultless =
          ap (items_fault (items_of xs) (frame_of c.args.scope.now) (later_of c.args.scope.now) []) e
          ∙ faults_more (items_of xs) (frame_of c.args.scope.now) (later_of c.args.scope.now) (items_of (take k xs)) (item_of x) c.loop-item.invariant.faultless
          (c.in_ok-add_rule.ensures.faultless (items_of (take k xs)) c.loop-item.invariant.made c.loop-item.invariant.counted);
    }

pub returns-in_err-add_rule-clause-refused : goal.returns-in_err-add_rule-clause-refused
returns-in_err-add_rule-clause-refused c =
    let p = err_from_is_err_and c.from_residual.result c.from_residual.ensures.1 in
    let xs = c.args.items.now in
    let k = c.loop-item.item-index in
    let x = c.item-item.result in
    let cut : xs ≡ take k xs ++ x ∷ drop (suc k) xs = split_at xs k x c.loop-item-test.true ∙ ap (λ (d : Item). take k xs ++ d ∷ drop (suc k) xs) (sym c.item-item.is) in
    let e : items_of xs ≡ items_of (take k xs) ++ item_of x ∷ items_of (drop (suc k) xs) = ap items_of cut ∙ map-append item_of (take k xs) (x ∷ drop (suc k) xs) in
    rw (p.1, p.2)
    (first_here (items_of xs) (frame_of c.args.scope.now) (later_of c.args.scope.now) (items_of xs) (items_of (take k xs)) (item_of x) (items_of (drop (suc k) xs)) _ e c.loop-item.invariant.faultless
    (c.in_err-add_rule.ensures.refused (items_of (take k xs)) c.loop-item.invariant.made c.loop-item.invariant.counted))
