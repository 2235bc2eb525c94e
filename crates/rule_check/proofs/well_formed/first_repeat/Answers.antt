use Rattle.std.proofs.Common.{◌≡◌, ◌≤◌, ◌+◌, ◌∙◌, Some, None, arith, length, sym, ap, subst, slice_get, nat_cmp, option_copied}
use Rattle.std.specs.BTreeMap.{is_at}
use Rattle.std.specs.Map.{lookup}
use Rattle.std.specs.Cmp.Lexicographic.{slice_cmp}
use Rattle.std.proofs.lemmas.Map.Text.{btree_map_updates_str}
use Rattle.rule_lang.specs.View.{item_of, items_of}
use Rattle.rule_check.specs.Searches.{naming_of}
use Rattle.rule_check.proofs.Searches.{tree_at, tree_count}
use Rattle.rule_check.proofs.Repeats.{Seen, seen_at, seen_first, seen_skip, seen_next, seen_again, seen_last, none_of}
use Rattle.rule_check.proofs.well_formed.first_repeat.Goals as goal
use Rattle.rule_check.proofs.well_formed.first_repeat.Goals.{in-Some+in_ok-earlier+in_default-2, in_default}

pub loop-k-init : goal.loop-k-init
loop-k-init c =
    seen_first (naming_of c.args.kind) (items_of c.args.items.now) c.new-seen.result
    (λ q. ap (λ entries. lookup (is_at (λ k. slice_cmp nat_cmp q k.now)) entries) c.new-seen.ensures.empty)

pub returns-in-Some-2-clause-found : goal.returns-in-Some-2-clause-found
returns-in-Some-2-clause-found c =
    let at = tree_at c.args.items.now c.loop-k.k c.index-items-k.result c.loop-k-test.true ∙ ap (λ i. Some (item_of i)) (sym c.index-items-k.is) in
    sym (seen_again (naming_of c.args.kind) (items_of c.args.items.now) c.loop-k.k c.loop-k.seen (item_of c.index-items-k.result) c.in-Some.name.now c.in-Some-2.earlier at (sym c.in-Some.ensures.exact) (sym c.in_ok-earlier.ensures.old ∙ c.in-Some-2.is) c.loop-k.invariant).twice

pub returns-in-Some-2-clause-named : goal.returns-in-Some-2-clause-named
returns-in-Some-2-clause-named c =
    let at = tree_at c.args.items.now c.loop-k.k c.index-items-k.result c.loop-k-test.true ∙ ap (λ i. Some (item_of i)) (sym c.index-items-k.is) in
    (seen_again (naming_of c.args.kind) (items_of c.args.items.now) c.loop-k.k c.loop-k.seen (item_of c.index-items-k.result) c.in-Some.name.now c.in-Some-2.earlier at (sym c.in-Some.ensures.exact) (sym c.in_ok-earlier.ensures.old ∙ c.in-Some-2.is) c.loop-k.invariant).repeat

pub loop-k-preserved : goal.loop-k-preserved
loop-k-preserved c =
    let naming = naming_of c.args.kind in
    let items = items_of c.args.items.now in
    let k = c.loop-k.k in
    let item = item_of c.index-items-k.result in
    let at : slice_get items k ≡ Some item = tree_at c.args.items.now k c.index-items-k.result c.loop-k-test.true ∙ ap (λ i. Some (item_of i)) (sym c.index-items-k.is) in
    elim c.match-name_of.branch [
      | in-Some+in_ok-earlier+in_default-2 w ↦
          let name = w.in-Some.name.now in
          let new : seen_at c.loop-k.seen name ≡ None = sym w.in_ok-earlier.ensures.old ∙ none_of w.in_ok-earlier.field-0 w.in_default-2.not-Some in
          seen_next naming items k c.loop-k.seen c.match-name_of.seen item name at (sym w.in-Some.ensures.exact) new
          (λ q. ap (λ s. seen_at s q) w.seen-is ∙ btree_map_updates_str name c.loop-k.seen w.insert.new.self (Some k) w.in_ok-earlier.ensures.updates q)
          c.loop-k.invariant
      | in_default w ↦
          subst (Seen naming items (k + 1)) (sym w.seen-is)
          (seen_skip naming items k c.loop-k.seen item at (sym c.name_of.ensures.exact ∙ ap option_copied w.in_default.is) c.loop-k.invariant)
    ]

pub returns-clause-found : goal.returns-clause-found
returns-clause-found c =
    let items = items_of c.args.items.now in
    let count : length items ≡ length c.args.items.now = tree_count c.args.items.now in
    let past : length items ≤ c.loop-k.k = grind (arith, c.loop-k-test.false) in
    sym (seen_last (naming_of c.args.kind) items c.loop-k.k c.loop-k.seen past c.loop-k.invariant)
