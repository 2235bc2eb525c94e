use Rattle.std.proofs.Common.{◌∙◌, sym, ap, subst, nat_eq, nat_cmp, slice_index_or, Ok, Err}
use Rattle.std.specs.List.Sorted.{IsBinarySearchResult}
use Rattle.link_net.specs.Neighbours.{row}
use Rattle.link_net.proofs.Simples.{link_at, no_link, seconds}
use Rattle.link_net.proofs.simple.has_link.Goals as goal

pub returns-in-Ok : goal.returns-in-Ok
returns-in-Ok c =
    let there = subst (λ xs. IsBinarySearchResult (λ y. nat_cmp y c.args.other) xs (Ok c.in-Ok.slot)) c.row_of.ensures.neighbours c.in-Ok.ensures.position in
    let weight = ap (λ ws. slice_index_or ws c.in-Ok.slot 0) c.row_of.ensures.weights ∙ seconds (row c.args.rows.now c.args.node) c.in-Ok.slot in
    record {
      exact = ap (λ x. nat_eq x c.args.weight) weight ∙ sym (link_at c.args.rows.now c.args.node c.args.other c.args.weight c.in-Ok.slot c.requires.ordered there);
    }

pub returns-in-Err : goal.returns-in-Err
returns-in-Err c =
    let missed = subst (λ xs. IsBinarySearchResult (λ y. nat_cmp y c.args.other) xs (Err c.in-Err.field-0)) c.row_of.ensures.neighbours c.in-Err.ensures.position in
    record { exact = sym (no_link c.args.rows.now c.args.node c.args.other c.args.weight c.in-Err.field-0 c.requires.ordered missed) }
