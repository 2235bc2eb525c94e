use Rattle.std.proofs.Common.{◌≡◌, ◌∙◌, ◌∷◌, ◌++◌, [], Some, true, refl, sym, ap, string_bytes, is_none, arith}
use Rattle.std.proofs.lemmas.Grind.{common_steps}
use Rattle.toml.specs.Data.{get_member}
use Rattle.toml.specs.View.{view, members_view, table_view}
use Rattle.toml.proofs.Views.{Entry}
use Rattle.link_net.specs.Document.{sets_of}
use Rattle.link_net.proofs.ShapeRefusals.{value_read, value_unread, value_named}
use Rattle.link_net.proofs.ShapeSteps.{found_at, one_more, sets_read, sets_unread}
use Rattle.link_net.proofs.shape_causes.set_cause.Goals as goal
use Rattle.link_net.proofs.shape_causes.set_cause.Goals.{In-Some}

abbrev entry : In-Some → Entry
entry c = (c.in-Some.key.now, c.in-Some.value.now)

left : (c : In-Some) → c.loop-key.key-iterator ≡ entry c ∷ c.next.new.self
left c = grind (arith, common_steps)

split : (c : In-Some) → c.args.sets.now.entries ≡ c.loop-key.invariant.3.0 ++ entry c ∷ c.next.new.self
split c = c.loop-key.invariant.3.1 ∙ ap (λ es. c.loop-key.invariant.3.0 ++ es) (left c)

found : (c : In-Some) → get_member (string_bytes c.in-Some.key.now) (table_view c.args.sets.now) ≡ Some (view c.in-Some.value.now)
found c = found_at c.args.sets.now.entries c.loop-key.invariant.3.0 (entry c) c.next.new.self (split c) c.iter-key-items.ensures.ordered

before : (c : In-Some) → is_none (sets_of (table_view c.args.sets.now)) ≡ is_none (sets_of (members_view (entry c ∷ c.next.new.self)))
before c = c.loop-key.invariant.2 ∙ ap (λ es. is_none (sets_of (members_view es))) (left c)

pub returns-in_default-clause-named : goal.returns-in_default-clause-named
returns-in_default-clause-named c =
    let b = (goal.at.returns-in_default-clause-named c).In-Some in
    rw (c.in_ok-key.ensures.ok ∙ c.as_str.ensures.value, found b) (sym c.in_default.ensures)

pub returns-in-Some-first_no_pair-clause-agrees : goal.returns-in-Some-first_no_pair-clause-agrees
returns-in-Some-first_no_pair-clause-agrees c =
    let b = (goal.at.returns-in-Some-first_no_pair-clause-agrees c).In-Some in
    let bad = value_unread (view c.in-Some.value.now) c.in-Some-as_array.array.now.items c.in-Some-as_array.ensures c.in-Some-first_no_pair.entry (rw c.as_slice.ensures.value at c.in-Some-first_no_pair.ensures) in
    let none : is_none (sets_of (table_view c.args.sets.now)) ≡ true = before b ∙ sets_unread (string_bytes c.in-Some.key.now) (view c.in-Some.value.now) (members_view c.next.new.self) bad in
    rw none refl

pub returns-in-Some-first_no_pair-clause-named : goal.returns-in-Some-first_no_pair-clause-named
returns-in-Some-first_no_pair-clause-named c =
    let b = (goal.at.returns-in-Some-first_no_pair-clause-named c).In-Some in
    rw (c.in_ok-key-2.ensures.ok ∙ c.as_str-in-Some-first_no_pair.ensures.value, found b)
    (value_named (view c.in-Some.value.now) c.in-Some-as_array.array.now.items c.in-Some-as_array.ensures c.in-Some-first_no_pair.entry (rw c.as_slice.ensures.value at c.in-Some-first_no_pair.ensures))

pub loop-key-preserved : goal.loop-key-preserved
loop-key-preserved c =
    let b = (goal.at.loop-key-preserved c).In-Some in
    let good = value_read (view c.in-Some.value.now) c.in-Some-as_array.array.now.items c.in-Some-as_array.ensures (rw c.as_slice.ensures.value at c.in_default-first_no_pair.ensures) in
    let further = before b ∙ sets_read (string_bytes c.in-Some.key.now) (view c.in-Some.value.now) (members_view c.next.new.self) good in
    (tt, tt, further, (c.loop-key.invariant.3.0 ++ entry b ∷ [], one_more c.args.sets.now.entries c.loop-key.invariant.3.0 (entry b) c.next.new.self (split b)))
