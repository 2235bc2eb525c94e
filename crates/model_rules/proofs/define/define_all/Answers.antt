use Rattle.std.proofs.Common.{◌≡◌, length, sym, ap, ◌∙◌, rules}
use Rattle.std.specs.Prelude.{map, string_bytes}
use Rattle.std.proofs.lemmas.List.{length-map}
use Rattle.std.proofs.lemmas.Result.{err_from_is_err_and}
use Rattle.model_text.specs.View.{items_of}
use Rattle.model_rules.specs.ScopeView.{IsScopeOf, known_of, knowns_of, givens_of}
use Rattle.model_rules.specs.Definitions.{names_defined, known_after, IsPassed}
use Rattle.model_rules.proofs.Keeping.{kept_on}
use Rattle.model_rules.proofs.Rounds.{scope_same, pass_at, first_at, after_known, after_going, after_last, stopped, early, ends_at, ends_known, ends_faultless, ends_refused}
use Rattle.model_rules.proofs.define.define_all.Goals as goal

pub loop-round-preserved : goal.loop-round-preserved
loop-round-preserved c =
    let items = items_of c.args.items.now in
    let values = givens_of c.args.given.now in
    let old = c.args.scope.now in
    let lets = knowns_of old.lets.items in
    let now = c.loop-round.scope in
    let new = c.define_some.new.scope in
    let k = c.loop-round.round in
    let i = c.loop-round.invariant in
    let names = map string_bytes c.args.names.now in
    let found = c.in_ok-found.found in
    let kept = kept_on items values old now new (i.fields, i.draws, i.stable) (c.define_some.ensures.fields, c.define_some.ensures.draws, c.define_some.ensures.stable) in
    let pass : IsScopeOf items old → names ≡ names_defined items → IsPassed items values (known_after items values lets k) (names_defined items) found (knowns_of new.lets.items) = λ s n. pass_at items values lets (knowns_of now.lets.items) (knowns_of new.lets.items) names found k (i.known s n) n (c.in_ok-found.ensures.passed (scope_same items old now s i.fields i.draws i.later)) in
    record {
      fields = kept.0;
      draws = kept.1;
      later = c.define_some.ensures.later ∙ i.later;
      stable = kept.2;
      known = λ s n. after_known items values lets (knowns_of new.lets.items) found k (pass s n);
      going = λ s n. after_going items values lets (knowns_of new.lets.items) found k (i.going s n) (pass s n);
      last = λ s n. after_last items values lets (knowns_of new.lets.items) found k (pass s n);
    }

pub returns-in_err-found-clause-refused : goal.returns-in_err-found-clause-refused
returns-in_err-found-clause-refused c = λ s n.
    let p = err_from_is_err_and c.from_residual.result c.from_residual.ensures.1 in
    let items = items_of c.args.items.now in
    let values = givens_of c.args.given.now in
    let lets = knowns_of c.args.scope.now.lets.items in
    let now = c.loop-round.scope in
    let k = c.loop-round.round in
    let i = c.loop-round.invariant in
    let names = map string_bytes c.args.names.now in
    rw (p.1, p.2)
    (stopped items values lets k (length c.args.names.now) _ c.loop-round-test.true (sym (length-map c.args.names.now string_bytes) ∙ ap length n) (i.going s n)
    (first_at items values lets (knowns_of now.lets.items) names k _ (i.known s n) n (c.in_err-found.ensures.refused (scope_same items c.args.scope.now now s i.fields i.draws i.later))))

pub returns-then-len-before-clause-known : goal.returns-then-len-before-clause-known
returns-then-len-before-clause-known c = λ s n.
    let items = items_of c.args.items.now in
    let values = givens_of c.args.given.now in
    let old = c.args.scope.now in
    let lets = knowns_of old.lets.items in
    let now = c.loop-round.scope in
    let new = c.define_some.new.scope in
    let k = c.loop-round.round in
    let i = c.loop-round.invariant in
    let found = c.in_ok-found.found in
    let pass = pass_at items values lets (knowns_of now.lets.items) (knowns_of new.lets.items) (map string_bytes c.args.names.now) found k (i.known s n) n (c.in_ok-found.ensures.passed (scope_same items old now s i.fields i.draws i.later)) in
    let size : length new.lets.items ≡ length now.lets.items = search rules in
    let same : length (knowns_of new.lets.items) ≡ length (known_after items values lets k) = length-map new.lets.items known_of ∙ (size ∙ (sym (length-map now.lets.items known_of) ∙ ap length (i.known s n))) in
    let ends = early items values lets (knowns_of new.lets.items) found k (length c.args.names.now) c.loop-round-test.true (sym (length-map c.args.names.now string_bytes) ∙ ap length n) (i.going s n) pass same in
    ends_known _ items values lets (knowns_of new.lets.items) found ends

pub returns-clause-known : goal.returns-clause-known
returns-clause-known c = λ s n.
    let items = items_of c.args.items.now in
    let values = givens_of c.args.given.now in
    let lets = knowns_of c.args.scope.now.lets.items in
    let now = c.loop-round.scope in
    let k = c.loop-round.round in
    let i = c.loop-round.invariant in
    let end : k ≡ length c.args.names.now = search rules in
    let all : k ≡ length (names_defined items) = end ∙ (sym (length-map c.args.names.now string_bytes) ∙ ap length n) in
    ends_known _ items values lets (knowns_of now.lets.items) c.loop-round.lacking (ends_at items values lets (knowns_of now.lets.items) c.loop-round.lacking k all (i.known s n) (i.going s n) (i.last s n))

pub returns-then-len-before-clause-faultless : goal.returns-then-len-before-clause-faultless
returns-then-len-before-clause-faultless c = λ s n.
    let items = items_of c.args.items.now in
    let values = givens_of c.args.given.now in
    let old = c.args.scope.now in
    let lets = knowns_of old.lets.items in
    let now = c.loop-round.scope in
    let new = c.define_some.new.scope in
    let k = c.loop-round.round in
    let i = c.loop-round.invariant in
    let found = c.in_ok-found.found in
    let pass = pass_at items values lets (knowns_of now.lets.items) (knowns_of new.lets.items) (map string_bytes c.args.names.now) found k (i.known s n) n (c.in_ok-found.ensures.passed (scope_same items old now s i.fields i.draws i.later)) in
    let size : length new.lets.items ≡ length now.lets.items = search rules in
    let same : length (knowns_of new.lets.items) ≡ length (known_after items values lets k) = length-map new.lets.items known_of ∙ (size ∙ (sym (length-map now.lets.items known_of) ∙ ap length (i.known s n))) in
    let ends = early items values lets (knowns_of new.lets.items) found k (length c.args.names.now) c.loop-round-test.true (sym (length-map c.args.names.now string_bytes) ∙ ap length n) (i.going s n) pass same in
    ends_faultless _ items values lets (knowns_of new.lets.items) found ends c.check_none.ensures.none

pub returns-clause-faultless : goal.returns-clause-faultless
returns-clause-faultless c = λ s n.
    let items = items_of c.args.items.now in
    let values = givens_of c.args.given.now in
    let lets = knowns_of c.args.scope.now.lets.items in
    let now = c.loop-round.scope in
    let k = c.loop-round.round in
    let i = c.loop-round.invariant in
    let end : k ≡ length c.args.names.now = search rules in
    let all : k ≡ length (names_defined items) = end ∙ (sym (length-map c.args.names.now string_bytes) ∙ ap length n) in
    ends_faultless _ items values lets (knowns_of now.lets.items) c.loop-round.lacking (ends_at items values lets (knowns_of now.lets.items) c.loop-round.lacking k all (i.known s n) (i.going s n) (i.last s n)) c.check_none-2.ensures.none

pub returns-then-len-before-clause-refused : goal.returns-then-len-before-clause-refused
returns-then-len-before-clause-refused c = λ s n.
    let items = items_of c.args.items.now in
    let values = givens_of c.args.given.now in
    let old = c.args.scope.now in
    let lets = knowns_of old.lets.items in
    let now = c.loop-round.scope in
    let new = c.define_some.new.scope in
    let k = c.loop-round.round in
    let i = c.loop-round.invariant in
    let found = c.in_ok-found.found in
    let pass = pass_at items values lets (knowns_of now.lets.items) (knowns_of new.lets.items) (map string_bytes c.args.names.now) found k (i.known s n) n (c.in_ok-found.ensures.passed (scope_same items old now s i.fields i.draws i.later)) in
    let size : length new.lets.items ≡ length now.lets.items = search rules in
    let same : length (knowns_of new.lets.items) ≡ length (known_after items values lets k) = length-map new.lets.items known_of ∙ (size ∙ (sym (length-map now.lets.items known_of) ∙ ap length (i.known s n))) in
    let ends = early items values lets (knowns_of new.lets.items) found k (length c.args.names.now) c.loop-round-test.true (sym (length-map c.args.names.now string_bytes) ∙ ap length n) (i.going s n) pass same in
    ends_refused _ items values lets (knowns_of new.lets.items) found ends c.check_none.ensures.refused

pub returns-clause-refused : goal.returns-clause-refused
returns-clause-refused c = λ s n.
    let items = items_of c.args.items.now in
    let values = givens_of c.args.given.now in
    let lets = knowns_of c.args.scope.now.lets.items in
    let now = c.loop-round.scope in
    let k = c.loop-round.round in
    let i = c.loop-round.invariant in
    let end : k ≡ length c.args.names.now = search rules in
    let all : k ≡ length (names_defined items) = end ∙ (sym (length-map c.args.names.now string_bytes) ∙ ap length n) in
    ends_refused _ items values lets (knowns_of now.lets.items) c.loop-round.lacking (ends_at items values lets (knowns_of now.lets.items) c.loop-round.lacking k all (i.known s n) (i.going s n) (i.last s n)) c.check_none-2.ensures.refused
