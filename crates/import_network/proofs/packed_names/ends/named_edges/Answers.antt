use Rattle.std.proofs.Common.{◌≢◌, ◌+◌, ◌<◌, [], length}
use Rattle.link_net.specs.Limits.{most_rows}
use Rattle.import_links.specs.Joining.{names_with}
use Rattle.large_pack.proofs.Rising.{told_rise, front_rise}
use Rattle.import_network.specs.declared.packed_names.fault.NamesPackFault.TheVariants.{Memory}
use Rattle.import_network.specs.PackNaming.{reading_of}
use Rattle.import_network.proofs.Numbering.{read_done, crowd_here, err_keeps}
use Rattle.import_network.proofs.packed_names.ends.named_edges.Goals as goal

pub returns-in_err-push_edge-clause-crowd : goal.returns-in_err-push_edge-clause-crowd
returns-in_err-push_edge-clause-crowd c es is =
    let o = c.args.options.now in
    err_keeps c.from_residual-in_err-push_edge.result c.in_err-push_edge.field-0.0 (λ fault. fault ≢ Memory → most_rows < length (names_with [] es)) c.from_residual-in_err-push_edge.ensures.1
    (λ other. crowd_here o (reading_of o) c.loop-number.names c.loop-number.edges.items c.in_ok-edge.edge (c.in-Some.number, c.in-Some.line.now) _ _ _ es most_rows c.in-Some.ensures.told c.in_ok-edge.ensures.edge c.loop-number.invariant.read is (c.in_err-push_edge.ensures.crowd other))

pub returns-clause-edges : goal.returns-clause-edges
returns-clause-edges c es is =
    let o = c.args.options.now in
    (read_done o (reading_of o) c.loop-number.names c.loop-number.edges.items _ _ es c.in_default.ensures.told c.loop-number.invariant.read is).1

pub returns-clause-rising : goal.returns-clause-rising
returns-clause-rising c = front_rise c.loop-number.edges.items _ _ c.loop-number.invariant.lines (told_rise (c.args.from.passed + 1) c.args.from.bytes.now)
