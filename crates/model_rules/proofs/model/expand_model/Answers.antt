use Rattle.std.proofs.Common.{ap, ◌∙◌}
use Rattle.std.specs.Prelude.{map, string_bytes}
use Rattle.rule_lang.specs.View.{items_of as rules_of}
use Rattle.model_text.specs.View.{items_of}
use Rattle.model_rules.specs.ScopeView.{frame_of, givens_of}
use Rattle.model_rules.specs.Models.{setting}
use Rattle.model_rules.proofs.Expanding.{next_by, initials_by, all_in_states, same_fields}
use Rattle.model_rules.proofs.Accepted.{accepted}
use Rattle.model_rules.proofs.RefusalsTold.{first_refused, model_sound, is_program}
use Rattle.model_rules.proofs.Wrong.{by_names, by_definitions, by_rules, by_none, made_is}
use Rattle.std.proofs.lemmas.Result.{err_from_is_err_and}
use Rattle.model_rules.proofs.model.expand_model.Goals as goal

pub returns-clause-next : goal.returns-clause-next
returns-clause-next c =
    next_by (items_of c.args.items.now) (frame_of c.in_ok-scope.scope) (items_of c.args.items.now) (setting (items_of c.args.items.now) (givens_of c.args.given.now)) (rules_of c.in_ok-rules.rules.items)
    c.in_ok-scope.ensures.fields (ap (λ ps. map string_bytes ps) c.in_ok-scope.ensures.plain) c.in_ok-scope.ensures.draws c.in_ok-scope.ensures.stable c.in_ok-rules.ensures.expands

pub returns-clause-initial : goal.returns-clause-initial
returns-clause-initial c =
    initials_by (items_of c.args.items.now) (frame_of c.in_ok-scope.scope) (items_of c.args.items.now) (setting (items_of c.args.items.now) (givens_of c.args.given.now)) (rules_of c.in_ok-rules.rules.items)
    c.in_ok-scope.ensures.fields (ap (λ ps. map string_bytes ps) c.in_ok-scope.ensures.plain) c.in_ok-scope.ensures.draws c.in_ok-scope.ensures.stable c.in_ok-rules.ensures.expands

pub returns-clause-states : goal.returns-clause-states
returns-clause-states c =
    all_in_states (items_of c.args.items.now) (frame_of c.in_ok-scope.scope) (items_of c.args.items.now) (rules_of c.in_ok-rules.rules.items) c.in_ok-rules.ensures.expands

pub returns-clause-fields : goal.returns-clause-fields
returns-clause-fields c =
    same_fields (items_of c.args.items.now) (frame_of c.in_ok-scope.scope) (items_of c.args.items.now) (rules_of c.in_ok-rules.rules.items) c.in_ok-rules.ensures.expands

pub returns-clause-fits : goal.returns-clause-fits
returns-clause-fits c =
    accepted (items_of c.args.items.now) (frame_of c.in_ok-scope.scope) (items_of c.args.items.now) (givens_of c.args.given.now) (rules_of c.in_ok-rules.rules.items)
    c.in_ok-scope.ensures.fields c.in_ok-check_names.ensures.named c.in_ok-rules.ensures.expands c.in_ok-rules.ensures.fit c.in_ok-rules.ensures.within

pub returns-clause-form : goal.returns-clause-form
returns-clause-form c =
    let s = c.in_ok-scope.ensures in
    is_program (items_of c.args.items.now) (givens_of c.args.given.now) (rules_of c.in_ok-rules.rules.items) s.faultless
    (c.in_ok-rules.ensures.made ∙ made_is (items_of c.args.items.now) (givens_of c.args.given.now) c.in_ok-scope.scope s.draws s.fields s.known (ap (λ ps. map string_bytes ps) s.plain))

pub returns-clause-faultless : goal.returns-clause-faultless
returns-clause-faultless c =
    let s = c.in_ok-scope.ensures in
    model_sound (items_of c.args.items.now) (givens_of c.args.given.now)
    (by_none (items_of c.args.items.now) (givens_of c.args.given.now) c.in_ok-scope.scope c.in_ok-check_names.ensures.named s.faultless
    s.draws s.fields s.known (ap (λ ps. map string_bytes ps) s.plain) s.later c.in_ok-rules.ensures.faultless)

pub returns-in_err-check_names-clause-refused : goal.returns-in_err-check_names-clause-refused
returns-in_err-check_names-clause-refused c =
    let p = err_from_is_err_and c.from_residual.result c.from_residual.ensures.1 in
    rw (p.1, p.2)
    (first_refused (items_of c.args.items.now) (givens_of c.args.given.now) _
    (by_names (items_of c.args.items.now) (givens_of c.args.given.now) _ c.in_err-check_names.ensures.misnamed))

pub returns-in_err-scope-clause-refused : goal.returns-in_err-scope-clause-refused
returns-in_err-scope-clause-refused c =
    let p = err_from_is_err_and c.from_residual-in_err-scope.result c.from_residual-in_err-scope.ensures.1 in
    rw (p.1, p.2)
    (first_refused (items_of c.args.items.now) (givens_of c.args.given.now) _
    (by_definitions (items_of c.args.items.now) (givens_of c.args.given.now) _ c.in_ok-check_names.ensures.named c.in_err-scope.ensures.refused))

pub returns-in_err-rules-clause-refused : goal.returns-in_err-rules-clause-refused
returns-in_err-rules-clause-refused c =
    let p = err_from_is_err_and c.from_residual-in_err-rules.result c.from_residual-in_err-rules.ensures.1 in
    let s = c.in_ok-scope.ensures in
    rw (p.1, p.2)
    (first_refused (items_of c.args.items.now) (givens_of c.args.given.now) _
    (by_rules (items_of c.args.items.now) (givens_of c.args.given.now) c.in_ok-scope.scope _ c.in_ok-check_names.ensures.named s.faultless
    s.draws s.fields s.known (ap (λ ps. map string_bytes ps) s.plain) s.later c.in_err-rules.ensures.refused))
