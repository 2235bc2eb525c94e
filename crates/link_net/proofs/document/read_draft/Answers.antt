use Rattle.std.proofs.Common.{◌≡◌, Some, refl, sym}
use Rattle.std.proofs.lemmas.Result.{err_from_is_err_and}
use Rattle.toml.specs.View.{table_view}
use Rattle.link_net.specs.Document.{nodes_of, links_of, phase_of, field_sets_of}
use Rattle.link_net.proofs.Steps.{some_from_ok_or, none_from_ok_or}
use Rattle.link_net.proofs.document.read_draft.Goals as goal
use Rattle.link_net.proofs.document.read_draft.Goals.{In_ok-nodes, In_ok-links, In_ok-phase}

nodes_read : (c : In_ok-nodes) → nodes_of (table_view c.args.table.now) ≡ Some c.in_ok-nodes.nodes
nodes_read c = some_from_ok_or _ _ _ (sym c.in_ok-nodes.ensures.exact)

links_read : (c : In_ok-links) → links_of (table_view c.args.table.now) ≡ Some c.in_ok-links.links
links_read c = some_from_ok_or _ _ _ c.in_ok-links.ensures.answer

phase_read : (c : In_ok-phase) → phase_of (table_view c.args.table.now) ≡ Some c.in_ok-phase.phase
phase_read c = some_from_ok_or _ _ _ (sym c.in_ok-phase.ensures.exact)

pub returns-in_err-nodes : goal.returns-in_err-nodes
returns-in_err-nodes c =
    let p = err_from_is_err_and c.from_residual.result c.from_residual.ensures.1 in
    let none = none_from_ok_or (nodes_of (table_view c.args.table.now)) _ c.in_err-nodes.field-0.0 c.in_err-nodes.ensures.exact in
    rw (p.1, p.2, none.1) (λ other. rw none.0 refl)

pub returns-in_err-links : goal.returns-in_err-links
returns-in_err-links c =
    let p = err_from_is_err_and c.from_residual-in_err-links.result c.from_residual-in_err-links.ensures.1 in
    let nodes = nodes_read (goal.at.returns-in_err-links c).In_ok-nodes in
    rw (p.1, p.2) (λ other.
    let none = none_from_ok_or (links_of (table_view c.args.table.now)) _ c.in_err-links.field-0.0 (sym (c.in_err-links.ensures.answer other)) in
    rw (nodes, none.0, none.1) refl)

pub returns-in_err-phase : goal.returns-in_err-phase
returns-in_err-phase c =
    let p = err_from_is_err_and c.from_residual-in_err-phase.result c.from_residual-in_err-phase.ensures.1 in
    let nodes = nodes_read (goal.at.returns-in_err-phase c).In_ok-nodes in
    let links = links_read (goal.at.returns-in_err-phase c).In_ok-links in
    let none = none_from_ok_or (phase_of (table_view c.args.table.now)) _ c.in_err-phase.field-0.0 c.in_err-phase.ensures.exact in
    rw (p.1, p.2, none.1) (λ other. rw (nodes, links, none.0) refl)

pub returns-in_err-sets : goal.returns-in_err-sets
returns-in_err-sets c =
    let p = err_from_is_err_and c.from_residual-in_err-sets.result c.from_residual-in_err-sets.ensures.1 in
    let nodes = nodes_read (goal.at.returns-in_err-sets c).In_ok-nodes in
    let links = links_read (goal.at.returns-in_err-sets c).In_ok-links in
    let phase = phase_read (goal.at.returns-in_err-sets c).In_ok-phase in
    rw (p.1, p.2) (λ other.
    let none = none_from_ok_or (field_sets_of (table_view c.args.table.now)) _ c.in_err-sets.field-0.0 (sym (c.in_err-sets.ensures other)) in
    rw (nodes, links, phase, none.0, none.1) refl)
