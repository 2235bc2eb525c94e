use Rattle.std.proofs.Common.{◌≡◌, ◌∷◌, [], Some, string_bytes, arith, sym, ◌∙◌}
use Rattle.std.specs.Prelude.{option_and_then}
use Rattle.std.proofs.lemmas.Grind.{common_steps}
use Rattle.toml.specs.Data.{as_array}
use Rattle.toml.specs.View.{view, members_view}
use Rattle.toml.proofs.Views.{Entry}
use Rattle.link_net.specs.Document.{pairs_of, sets_of}
use Rattle.link_net.proofs.Steps.{sets_of-step, some_from_ok_or, same_Ok}
use Rattle.link_net.proofs.NameOrder.{key_bytes, names_step, names_rise}
use Rattle.link_net.proofs.document.read_sets.Goals as goal

pub loop-key-preserved : goal.loop-key-preserved
loop-key-preserved c =
    let e : Entry = (c.in-Some.key.now, c.in-Some.value.now) in
    let iter : c.loop-key.key-iterator ≡ e ∷ c.next.new.self = grind (arith, common_steps) in
    let is_set : option_and_then pairs_of (as_array (view e.1)) ≡ Some c.in_ok-pairs.pairs = some_from_ok_or _ _ _ c.in_ok-pairs.ensures.answer in
    let named : string_bytes e.0 ≡ c.in_ok-name.name = sym c.as_str.ensures.value ∙ same_Ok _ _ c.in_ok-name.ensures in
    let before = rw iter at c.loop-key.invariant.2 in
    let after = sets_of-step (sets_of (members_view c.args.table.now.entries)) c.loop-key.sets.items (string_bytes e.0) (view e.1) (members_view c.next.new.self) c.in_ok-pairs.pairs is_set before in
    let named_before = rw iter at c.loop-key.invariant.3 in
    let named_after = names_step (key_bytes c.args.table.now.entries) c.loop-key.sets.items (record { name = c.in_ok-name.name; pairs = c.in_ok-pairs.pairs }) e c.next.new.self named named_before in
    (tt, tt, rw c.in_ok-push.ensures.items (rw named at after), rw c.in_ok-push.ensures.items named_after)

pub new-requires : goal.new-requires
new-requires c =
    let done : c.loop-key.key-iterator ≡ [] = grind (arith, common_steps) in
    names_rise c.loop-key.sets.items c.args.table.now.entries c.loop-key.key-iterator c.iter-key-items.ensures.ordered done c.loop-key.invariant.3
