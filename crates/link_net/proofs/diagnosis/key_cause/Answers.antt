use Rattle.std.proofs.Common.{◌≡◌, ◌∙◌, ◌∷◌, ◌++◌, [], Some, true, false, sym, ap, string_bytes, arith}
use Rattle.std.proofs.lemmas.Grind.{common_steps}
use Rattle.std.proofs.lemmas.Result.{err_from_is_err_and}
use Rattle.toml.specs.Data.{get_member}
use Rattle.toml.specs.View.{view, members_view, table_view}
use Rattle.toml.proofs.Views.{Entry}
use Rattle.link_net.specs.Document.{is_known, has_unknown_key}
use Rattle.link_net.proofs.Documents.{known_step, unknown_step, is_there}
use Rattle.link_net.proofs.ShapeSteps.{found_at, one_more}
use Rattle.link_net.proofs.diagnosis.key_cause.Goals as goal
use Rattle.link_net.proofs.diagnosis.key_cause.Goals.{In-Some}

abbrev entry : In-Some → Entry
entry c = (c.in-Some.key.now, c.in-Some._value.now)

left : (c : In-Some) → c.loop-key.key-iterator ≡ entry c ∷ c.next.new.self
left c = grind (arith, common_steps)

split : (c : In-Some) → c.args.table.now.entries ≡ c.loop-key.invariant.3.0 ++ entry c ∷ c.next.new.self
split c = c.loop-key.invariant.3.1 ∙ ap (λ es. c.loop-key.invariant.3.0 ++ es) (left c)

found : (c : In-Some) → get_member (string_bytes c.in-Some.key.now) (table_view c.args.table.now) ≡ Some (view c.in-Some._value.now)
found c = found_at c.args.table.now.entries c.loop-key.invariant.3.0 (entry c) c.next.new.self (split c) c.iter-key-items.ensures.ordered

before : (c : In-Some) → has_unknown_key (table_view c.args.table.now) ≡ has_unknown_key (members_view (entry c ∷ c.next.new.self))
before c = c.loop-key.invariant.2 ∙ ap (λ es. has_unknown_key (members_view es)) (left c)

pub returns-then-not-is_known_key-clause-named : goal.returns-then-not-is_known_key-clause-named
returns-then-not-is_known_key-clause-named c =
    let b = (goal.at.returns-then-not-is_known_key-clause-named c).In-Some in
    let unknown : is_known (string_bytes c.in-Some.key.now) ≡ false = sym (rw c.as_str.ensures.value at c.is_known_key.ensures) ∙ c.if-not-is_known_key.true in
    rw (c.in_ok-key.ensures.ok ∙ c.as_str-then-not-is_known_key.ensures.value) (is_there _ (view c.in-Some._value.now) (found b), unknown)

pub loop-key-preserved : goal.loop-key-preserved
loop-key-preserved c =
    let b = (goal.at.loop-key-preserved c).In-Some in
    let known : is_known (string_bytes c.in-Some.key.now) ≡ true = sym (rw c.as_str.ensures.value at c.is_known_key.ensures) ∙ c.if-not-is_known_key.false in
    let further = before b ∙ known_step (string_bytes c.in-Some.key.now) (view c.in-Some._value.now) (members_view c.next.new.self) known in
    (tt, tt, further, (c.loop-key.invariant.3.0 ++ entry b ∷ [], one_more c.args.table.now.entries c.loop-key.invariant.3.0 (entry b) c.next.new.self (split b)))

pub returns-in_err-key-clause-at_once : goal.returns-in_err-key-clause-at_once
returns-in_err-key-clause-at_once c =
    let b = (goal.at.returns-in_err-key-clause-at_once c).In-Some in
    let unknown : is_known (string_bytes c.in-Some.key.now) ≡ false = sym (rw c.as_str.ensures.value at c.is_known_key.ensures) ∙ c.if-not-is_known_key.true in
    let p = err_from_is_err_and c.from_residual.result c.from_residual.ensures.1 in
    rw p.1 (before b ∙ unknown_step (string_bytes c.in-Some.key.now) (view c.in-Some._value.now) (members_view c.next.new.self) unknown)
