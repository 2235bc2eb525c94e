use Rattle.std.proofs.Common.{None, get_or, refl}
use Rattle.net_initial.proofs.Tables.{shown_agrees}
use Rattle.net_initial.specs.Opened.{opened_value, given, pairs_at}
use Rattle.net_initial.proofs.field_sets.opened_set.Goals as goal

pub returns-clause-set : goal.returns-clause-set
returns-clause-set c =
    let table = c.in_ok-table.table.items in
    let field = c.args.field.now in
    let shown = shown_agrees c.args.nodes (λ u. get_or table u None) (λ u. opened_value c.args.openings.now field u (given (pairs_at c.args.sets.now field) u)) c.in_ok-table.ensures.values in
    rw (c.new.ensures.text, c.new-2.ensures.items, c.in_ok-name.ensures.ok, c.in_ok-pairs.ensures, c.as_slice.ensures.value, c.in_ok-table.ensures.count, shown) refl
