use Rattle.link_net.proofs.ShapeRefusals.{links_here, links_fine, links_fault, links_named}
use Rattle.std.proofs.Common.{◌≡◌, Some, codes}
use Rattle.std.specs.Prelude.{option_and_then}
use Rattle.toml.specs.Data.{get_member, as_array}
use Rattle.toml.specs.View.{view, items_view, table_view}
use Rattle.link_net.proofs.shape_causes.links_cause.Goals as goal
use Rattle.link_net.proofs.shape_causes.links_cause.Goals.{In-Some-as_array}

here : (c : In-Some-as_array) → option_and_then as_array (get_member (codes "links") (table_view c.args.table.now)) ≡ Some (items_view c.in-Some-as_array.array.now.items)
here c = links_here (table_view c.args.table.now) (view c.in-Some.value.now) c.in-Some-as_array.array.now.items c.in-Some.ensures c.in-Some-as_array.ensures

pub returns-in_err-link-clause-agrees : goal.returns-in_err-link-clause-agrees
returns-in_err-link-clause-agrees c =
    let b = (goal.at.returns-in_err-link-clause-agrees c).In-Some-as_array in
    rw c.from_residual.ensures (links_fine (table_view c.args.table.now) c.in-Some-as_array.array.now.items (here b) (rw c.as_slice.ensures.value at c.in_err-link.ensures))

pub returns-clause-agrees : goal.returns-clause-agrees
returns-clause-agrees c =
    let b = (goal.at.returns-clause-agrees c).In-Some-as_array in
    links_fault (table_view c.args.table.now) c.in-Some-as_array.array.now.items (here b) c.in_ok-link.link (rw c.as_slice.ensures.value at c.in_ok-link.ensures)

pub returns-clause-named : goal.returns-clause-named
returns-clause-named c =
    let b = (goal.at.returns-clause-named c).In-Some-as_array in
    links_named (table_view c.args.table.now) c.in-Some-as_array.array.now.items (here b) c.in_ok-link.link (rw c.as_slice.ensures.value at c.in_ok-link.ensures)
