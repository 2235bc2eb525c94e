use Rattle.import_formats.proofs.edges.EdgeSteps.{read_more, read_all}
use Rattle.import_formats.proofs.edges.reader.collect.Goals as goal

pub loop-number-preserved : goal.loop-number-preserved
loop-number-preserved c = record {
  room = c.in-Some.ensures.room;
  read = read_more c.args.reading.now c.loop-number.edges.items c.push.new.self.items c.in_ok-edge.edge (c.in-Some.number, c.in-Some.line.now) _ _ _ c.in_ok-push.ensures.items c.in-Some.ensures.told c.in_ok-edge.ensures.edge c.loop-number.invariant.read;
}

pub returns : goal.returns
returns c = read_all c.args.reading.now c.loop-number.edges.items _ _ c.in_default.ensures.told c.loop-number.invariant.read
