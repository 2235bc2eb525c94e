use Rattle.std.proofs.Common.{◌≡◌, List, ap, ◌∙◌, subst}
use Rattle.std.specs.Prelude.{None}
use Rattle.std.proofs.lemmas.Result.{err_from_is_err_and}
use Rattle.model_text.specs.View.{items_of}
use Rattle.model_rules.specs.Frames.{KnownTree}
use Rattle.model_rules.specs.Definitions.{settled, defining_fault}
use Rattle.model_rules.proofs.Wrong.{first_same}
use Rattle.model_rules.specs.ScopeView.{givens_of}
use Rattle.model_rules.proofs.model.known_scope.Goals as goal

pub returns-clause-known : goal.returns-clause-known
returns-clause-known c =
    let items = items_of c.args.items.now in
    let values = givens_of c.args.given.now in
    let h = rw c.deref.ensures.value at c.in_ok-define_all.ensures.known in
    h c.in_ok-scope.ensures.of c.in_ok-names.ensures.exact ∙ ap (settled items values) c.in_ok-scope.ensures.first

pub returns-clause-faultless : goal.returns-clause-faultless
returns-clause-faultless c =
    let items = items_of c.args.items.now in
    let values = givens_of c.args.given.now in
    let h = rw c.deref.ensures.value at c.in_ok-define_all.ensures.faultless in
    subst (λ (ks : List KnownTree). defining_fault items values ks ≡ None) c.in_ok-scope.ensures.first (h c.in_ok-scope.ensures.of c.in_ok-names.ensures.exact)

pub returns-in_err-define_all-clause-refused : goal.returns-in_err-define_all-clause-refused
returns-in_err-define_all-clause-refused c =
    let p = err_from_is_err_and c.from_residual-in_err-define_all.result c.from_residual-in_err-define_all.ensures.1 in
    let items = items_of c.args.items.now in
    let values = givens_of c.args.given.now in
    let h = rw c.deref.ensures.value at c.in_err-define_all.ensures.refused in
    rw (p.1, p.2) (first_same items values _ _ _ c.in_ok-scope.ensures.first (h c.in_ok-scope.ensures.of c.in_ok-names.ensures.exact))
