use Rattle.std.proofs.Common.{◌≡◌, map, take, ◌+◌, sym, subst}
use Rattle.link_net.specs.declared.field_set.FieldSet.{FieldSet}
use Rattle.toml.specs.Data.{array}
use Rattle.toml.specs.View.{items_of}
use Rattle.net_text.specs.Written.{pair_data, put_member, sets_members}
use Rattle.net_text.proofs.Members.{sets-put}
use Rattle.net_text.proofs.document.sets_table.Goals as goal

pub loop-set-preserved : goal.loop-set-preserved
loop-set-preserved c =
    let sets = c.args.sets.now in
    let i = c.loop-set.set-index in
    let step =
    subst (λ (s : FieldSet). put_member s.name (array (items_of (map pair_data s.pairs))) (sets_members (take i sets)) ≡ sets_members (take (i + 1) sets)) (sym c.set-item.is)
    (sets-put sets i c.set-item.result c.loop-set-test.true c.requires) in
    rw (c.in_ok-put.ensures, c.as_str.ensures.text, c.in_ok-value.ensures, c.as_slice.ensures.items, c.loop-set.invariant) step
