use Rattle.std.proofs.Common.{◌≡◌, ◌+◌, ℕ, List, ◌∷◌, drop, sym, ap, ◌∙◌}
use Rattle.std.specs.Prelude.{map, string_bytes}
use Rattle.std.specs.Option.{option_or}
use Rattle.std.proofs.lemmas.List.{drop_more, drop_all}
use Rattle.std.proofs.lemmas.Result.{err_from_is_err_and}
use Rattle.model_text.specs.View.{items_of}
use Rattle.model_rules.specs.Definitions.{IsLooked, known_along, stop_along, last_along}
use Rattle.model_rules.specs.ScopeView.{IsScopeOf, knowns_of, givens_of}
use Rattle.model_rules.proofs.Keeping.{kept_on}
use Rattle.model_rules.proofs.Rounds.{known_step, stop_step, last_step, stop_here, scope_same}
use Rattle.model_rules.proofs.define.define_some.Goals as goal

pub loop-name-preserved : goal.loop-name-preserved
loop-name-preserved c =
    let items = items_of c.args.items.now in
    let values = givens_of c.args.given.now in
    let old = c.args.scope.now in
    let now = c.loop-name.scope in
    let new = c.look.new.scope in
    let xs = c.args.names.now in
    let k = c.loop-name.name-index in
    let x = c.name-item.result in
    let rest = map string_bytes (drop (k + 1) xs) in
    let i = c.loop-name.invariant in
    let found = c.in_ok-found.found in
    let kept = kept_on items values old now new (i.fields, i.draws, i.stable) (c.look.ensures.fields, c.look.ensures.draws, c.look.ensures.stable) in
    let cut : drop k xs ≡ x ∷ drop (k + 1) xs = drop_more xs k x c.loop-name-test.true ∙ ap (λ s. s ∷ drop (k + 1) xs) (sym c.name-item.is) in
    let step : map string_bytes (drop k xs) ≡ string_bytes x ∷ rest = ap (map string_bytes) cut in
    let here : IsScopeOf items old → IsScopeOf items now = λ s. scope_same items old now s i.fields i.draws i.later in
    let told = rw c.deref.ensures at c.in_ok-found.ensures.looked in
    let looked : IsScopeOf items old → IsLooked items values (knowns_of now.lets.items) (string_bytes x) found (knowns_of new.lets.items) = λ s. told (here s) in
    record {
      fields = kept.0;
      draws = kept.1;
      later = c.look.ensures.later ∙ i.later;
      stable = kept.2;
      known = λ s. known_step items values (knowns_of now.lets.items) (knowns_of new.lets.items) (string_bytes x) rest found (looked s) ∙ (ap (known_along items values (knowns_of now.lets.items)) (sym step) ∙ i.known s);
      going = λ s. stop_step items values (knowns_of now.lets.items) (knowns_of new.lets.items) (string_bytes x) rest found (looked s) ∙ (ap (stop_along items values (knowns_of now.lets.items)) (sym step) ∙ i.going s);
      last = λ s.
          ap (option_or (last_along items values (knowns_of new.lets.items) rest)) c.or-lacking.ensures
          ∙ (last_step items values (knowns_of now.lets.items) (knowns_of new.lets.items) (string_bytes x) rest found c.loop-name.lacking (looked s)
          ∙ (ap (λ (ns : List (List ℕ)). option_or (last_along items values (knowns_of now.lets.items) ns) c.loop-name.lacking) (sym step) ∙ i.last s));
    }

pub returns-clause-passed : goal.returns-clause-passed
returns-clause-passed c = λ s.
    let items = items_of c.args.items.now in
    let values = givens_of c.args.given.now in
    let now = knowns_of c.loop-name.scope.lets.items in
    let xs = c.args.names.now in
    let i = c.loop-name.invariant in
    let none = ap (map string_bytes) (drop_all c.loop-name.name-index xs c.loop-name-test.false) in
    record {
      known = sym (ap (known_along items values now) none) ∙ i.known s;
      told = sym (ap (λ (ns : List (List ℕ)). option_or (last_along items values now ns) c.loop-name.lacking) none) ∙ i.last s;
      going = sym (i.going s) ∙ ap (stop_along items values now) none;
    }

pub returns-in_err-found-clause-refused : goal.returns-in_err-found-clause-refused
returns-in_err-found-clause-refused c = λ s.
    let p = err_from_is_err_and c.from_residual.result c.from_residual.ensures.1 in
    let items = items_of c.args.items.now in
    let values = givens_of c.args.given.now in
    let now = c.loop-name.scope in
    let xs = c.args.names.now in
    let k = c.loop-name.name-index in
    let x = c.name-item.result in
    let i = c.loop-name.invariant in
    let cut : drop k xs ≡ x ∷ drop (k + 1) xs = drop_more xs k x c.loop-name-test.true ∙ ap (λ y. y ∷ drop (k + 1) xs) (sym c.name-item.is) in
    let told = rw c.deref.ensures at c.in_err-found.ensures.refused in
    rw (p.1, p.2)
    (λ m.
    sym (i.going s)
    ∙ (ap (λ ys. stop_along items values (knowns_of now.lets.items) (map string_bytes ys)) cut
    ∙ stop_here items values (knowns_of now.lets.items) (string_bytes x) (map string_bytes (drop (k + 1) xs)) _ (told (scope_same items c.args.scope.now now s i.fields i.draws i.later)) m))
