use Rattle.std.proofs.Common.{◌∙◌, Err}
use Rattle.large_pack.specs.Lines.{edges_of}
use Rattle.large_pack.specs.Packing.{packing_of}
use Rattle.large_pack.specs.Keys.{IsRead}
use Rattle.large_pack.proofs.Packs.{answers_by_fault}
use Rattle.large_pack.proofs.Readings.{counted, read_within, read_answers}
use Rattle.large_pack.proofs.pack.pack_edges.Goals as goal

pub pack_keyed-requires-clause-within : goal.pack_keyed-requires-clause-within
pack_keyed-requires-clause-within g c =
    let o = c.args.options.now in
    let defined = edges_of o c.args.text.now in
    let read : IsRead o defined c.in_ok-reading.reading = rw c.edge_lines-lines.ensures.lines at c.in_ok-reading.ensures.read in
    λ κs out. read_within o defined c.in_ok-reading.reading c.in_ok-nodes.nodes read (c.in_ok-nodes.ensures ∙ counted o defined c.in_ok-reading.reading.survey read.survey)

pub returns-in_err-packed-clause-answer : goal.returns-in_err-packed-clause-answer
returns-in_err-packed-clause-answer g c =
    let o = c.args.options.now in
    let defined = edges_of o c.args.text.now in
    let read : IsRead o defined c.in_ok-reading.reading = rw c.edge_lines-lines.ensures.lines at c.in_ok-reading.ensures.read in
    answers_by_fault (packing_of o c.args.text.now) c.in_err-packed.field-0.0 c.from_residual-in_err-packed.result c.from_residual-in_err-packed.ensures.1
    (read_answers o defined c.in_ok-reading.reading c.in_ok-nodes.nodes (Err c.in_err-packed.field-0.0) read (c.in_ok-nodes.ensures ∙ counted o defined c.in_ok-reading.reading.survey read.survey) c.in_err-packed.ensures.answer)
