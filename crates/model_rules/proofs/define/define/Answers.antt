use Rattle.std.proofs.Common.{◌≡◌, List, [], ◌∷◌, ◌++◌, sym, ap, ◌∙◌, subst}
use Rattle.std.specs.Prelude.{map, string_bytes}
use Rattle.std.proofs.lemmas.List.{map_push}
use Rattle.model_text.specs.View.{items_of, item_of}
use Rattle.model_rules.specs.Frames.{KnownTree}
use Rattle.model_rules.specs.Expansions.{AreStable}
use Rattle.model_rules.specs.ScopeView.{known_of, knowns_of, givens_of, setting_in}
use Rattle.model_rules.proofs.Sound.{stable_more}
use Rattle.model_rules.proofs.Rounds.{looked_more, looked_none, looked_same, looked_ring, looked_stop, looked_now}
use Rattle.rule_check.proofs.Repeats.{none_of}
use Rattle.std.specs.Option.{option_map}
use Rattle.std.specs.Prelude.{Option, Some, None}
use Rattle.std.specs.Borrow.{Bor}
use Rattle.model_text.specs.declared.tree.Item.{Item}
use Rattle.model_rules.specs.Definitions.{definition_of, told_known}
use Rattle.model_rules.specs.ScopeView.{frame_of}
use Rattle.model_rules.proofs.define.define.Goals as goal

pub returns-in_ok-push-in-Ok-Some-clause-stable : goal.returns-in_ok-push-in-Ok-Some-clause-stable
returns-in_ok-push-in-Ok-Some-clause-stable c = λ h.
    let items = items_of c.args.items.now in
    let given = setting_in (givens_of c.args.given.now) c.args.scope.now in
    let fs = map string_bytes c.args.scope.now.fields.items in
    let ls = knowns_of c.args.scope.now.lets.items in
    let known = c.in-Ok-Some.known in
    let e : knowns_of c.push.new.self.items ≡ ls ++ known_of known ∷ [] =
    ap knowns_of c.in_ok-push-in-Ok-Some.ensures.items ∙ (map_push known_of c.known_by.new.scope.lets.items known ∙ ap (λ v. knowns_of v.items ++ known_of known ∷ []) c.known_by.ensures.lets) in
    subst (λ (ks : List KnownTree). AreStable items given fs ks) (sym e)
    (stable_more items given fs ls c.args.name.now (item_of c.in-Some.item.now) (known_of known) h c.in-Some.ensures.finds (rw c.in-Ok-Some.field-0-is at c.in-Ok-Some.ensures.tells))

pub returns-in_ok-push-in-Ok-Some-clause-looked : goal.returns-in_ok-push-in-Ok-Some-clause-looked
returns-in_ok-push-in-Ok-Some-clause-looked c = λ s n.
    let items = items_of c.args.items.now in
    let known = c.in-Ok-Some.known in
    let e : knowns_of c.push.new.self.items ≡ knowns_of c.args.scope.now.lets.items ++ known_of known ∷ [] =
    ap knowns_of c.in_ok-push-in-Ok-Some.ensures.items ∙ (map_push known_of c.known_by.new.scope.lets.items known ∙ ap (λ v. knowns_of v.items ++ known_of known ∷ []) c.known_by.ensures.lets) in
    let d : definition_of items c.args.name.now ≡ Some (item_of c.in-Some.item.now) = sym c.definition.ensures.first ∙ ap (λ (o : Option (Bor Item)). option_map (λ i. item_of i.now) o) c.in-Some.is in
    let k : told_known (givens_of c.args.given.now) (frame_of c.args.scope.now) c.args.name.now (item_of c.in-Some.item.now) ≡ Some (known_of known) = sym (rw c.in-Ok-Some.field-0-is at c.in-Ok-Some.ensures.made) in
    looked_more items (givens_of c.args.given.now) c.args.scope.now c.args.name.now (item_of c.in-Some.item.now) (known_of known) (knowns_of c.push.new.self.items) s n d c.in-Ok-Some.ensures.faultless k e

pub returns-in_default-clause-looked : goal.returns-in_default-clause-looked
returns-in_default-clause-looked c = λ s n.
    let items = items_of c.args.items.now in
    let d : definition_of items c.args.name.now ≡ None = sym c.definition.ensures.first ∙ ap (λ (o : Option (Bor Item)). option_map (λ i. item_of i.now) o) (none_of c.definition.result c.in_default.not-Some) in
    looked_none items (givens_of c.args.given.now) (knowns_of c.args.scope.now.lets.items) c.args.name.now n d

pub returns-in-Ok-None-clause-looked : goal.returns-in-Ok-None-clause-looked
returns-in-Ok-None-clause-looked c = λ s n.
    let items = items_of c.args.items.now in
    let values = givens_of c.args.given.now in
    let lets = knowns_of c.args.scope.now.lets.items in
    let item = item_of c.in-Some.item.now in
    let d : definition_of items c.args.name.now ≡ Some item = sym c.definition.ensures.first ∙ ap (λ (o : Option (Bor Item)). option_map (λ i. item_of i.now) o) c.in-Some.is in
    let k : told_known values (frame_of c.args.scope.now) c.args.name.now item ≡ None = sym (rw c.in-Ok-None.field-0-is at c.in-Ok-None.ensures.made) in
    looked_now items values lets lets (knowns_of c.known_by.new.scope.lets.items) c.args.name.now None (ap (λ v. knowns_of v.items) c.known_by.ensures.lets)
    (looked_same items values c.args.scope.now c.args.name.now item s n d c.in-Ok-None.ensures.faultless k)

pub returns-then-lacks-clause-looked : goal.returns-then-lacks-clause-looked
returns-then-lacks-clause-looked c = λ s n.
    let items = items_of c.args.items.now in
    let values = givens_of c.args.given.now in
    let lets = knowns_of c.args.scope.now.lets.items in
    let item = item_of c.in-Some.item.now in
    let d : definition_of items c.args.name.now ≡ Some item = sym c.definition.ensures.first ∙ ap (λ (o : Option (Bor Item)). option_map (λ i. item_of i.now) o) c.in-Some.is in
    looked_now items values lets lets (knowns_of c.known_by.new.scope.lets.items) c.args.name.now (Some c.in-Err.fault) (ap (λ v. knowns_of v.items) c.known_by.ensures.lets)
    (looked_ring items values c.args.scope.now c.args.name.now item c.in-Err.fault s n d c.in-Err.ensures.refused (sym c.lacks.ensures.exact ∙ c.if-lacks.true))

pub returns-else-lacks-clause-refused : goal.returns-else-lacks-clause-refused
returns-else-lacks-clause-refused c = λ s n.
    let items = items_of c.args.items.now in
    let item = item_of c.in-Some.item.now in
    let d : definition_of items c.args.name.now ≡ Some item = sym c.definition.ensures.first ∙ ap (λ (o : Option (Bor Item)). option_map (λ i. item_of i.now) o) c.in-Some.is in
    looked_stop items (givens_of c.args.given.now) c.args.scope.now c.args.name.now item c.in-Err.fault s n d c.in-Err.ensures.refused (sym c.lacks.ensures.exact ∙ c.if-lacks.false)
