use Rattle.std.proofs.Common.{◌≡◌, sym, ◌∙◌}
use Rattle.std.specs.Prelude.{is_some, true, false}
use Rattle.model_text.specs.View.{items_of}
use Rattle.model_rules.specs.Refusals.{let_for}
use Rattle.model_rules.specs.ScopeView.{knowns_of, givens_of}
use Rattle.model_rules.proofs.Rounds.{looked_there, not_there}
use Rattle.model_rules.proofs.define.look.Goals as goal

pub returns-then-is_known-clause-looked : goal.returns-then-is_known-clause-looked
returns-then-is_known-clause-looked c = λ s.
    let lets = knowns_of c.args.scope.now.lets.items in
    let e : is_some (let_for lets c.args.name.now) ≡ true = sym (rw c.deref.ensures.value at c.is_known.ensures.exact) ∙ c.if-is_known.true in
    looked_there (items_of c.args.items.now) (givens_of c.args.given.now) lets c.args.name.now e

pub returns-clause-looked : goal.returns-clause-looked
returns-clause-looked c = λ s.
    let e : is_some (let_for (knowns_of c.args.scope.now.lets.items) c.args.name.now) ≡ false = sym (rw c.deref.ensures.value at c.is_known.ensures.exact) ∙ c.if-is_known.false in
    c.define.ensures.looked s (not_there (let_for (knowns_of c.args.scope.now.lets.items) c.args.name.now) e)

pub returns-clause-refused : goal.returns-clause-refused
returns-clause-refused c = λ s.
    let e : is_some (let_for (knowns_of c.args.scope.now.lets.items) c.args.name.now) ≡ false = sym (rw c.deref.ensures.value at c.is_known.ensures.exact) ∙ c.if-is_known.false in
    c.define.ensures.refused s (not_there (let_for (knowns_of c.args.scope.now.lets.items) c.args.name.now) e)
