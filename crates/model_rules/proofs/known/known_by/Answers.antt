use Rattle.std.specs.Prelude.{map, string_bytes}
use Rattle.model_text.specs.View.{name_of}
use Rattle.model_rules.specs.ScopeView.{knowns_of, givens_of, setting_in}
use Rattle.model_rules.proofs.known.known_by.Goals as goal

pub returns-in-States-clause-tells : goal.returns-in-States-clause-tells
returns-in-States-clause-tells c =
    rw c.in-States.is
    (rw c.deref.ensures.value at c.state_let.ensures.tells (map string_bytes c.args.scope.now.fields.items) (knowns_of c.args.scope.now.lets.items) (setting_in (givens_of c.args.given.now) c.args.scope.now) (name_of c.in-States.own))

pub returns-in_ok-known-in-Let-clause-tells : goal.returns-in_ok-known-in-Let-clause-tells
returns-in_ok-known-in-Let-clause-tells c =
    rw c.in-Let.is (rw c.deref-in-Let.ensures.value at c.in_ok-known-in-Let.ensures.tells (givens_of c.args.given.now))
