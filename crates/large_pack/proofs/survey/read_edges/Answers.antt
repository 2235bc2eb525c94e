use Rattle.std.proofs.Common.{refl}
use Rattle.large_pack.proofs.Surveying.{told_more, told_all}
use Rattle.large_pack.proofs.Readings.{from_start, to_next, to_end}
use Rattle.large_pack.proofs.survey.read_edges.Goals as goal

pub loop-number-init : goal.loop-number-init
loop-number-init c = record {
  room = c.requires.room;
  told = refl;
  read = from_start c.args.options.now _ c.no_edges-start.result (c.no_edges-start.ensures.none c.args.options.now);
}

pub loop-number-preserved : goal.loop-number-preserved
loop-number-preserved c = record {
  room = c.in-Some.ensures.room;
  told = told_more c.args.options.now c.loop-number.survey c.with_edge-survey.result c.in_ok-edge.edge (c.in-Some.number, c.in-Some.line.now) _ _ _ c.with_edge-survey.ensures c.in-Some.ensures.told c.in_ok-edge.ensures.edge c.loop-number.invariant.told;
  read = to_next c.args.options.now _ _ _ (c.in-Some.number, c.in-Some.line.now) c.in_ok-edge.edge c.loop-number.keyed c.with_arcs-keyed.result c.loop-number.invariant.read c.in-Some.ensures.told c.in_ok-edge.ensures.edge c.with_arcs-keyed.ensures.kept;
}

pub returns : goal.returns
returns c = record {
  survey = told_all c.args.options.now c.loop-number.survey _ _ c.in_default.ensures.told c.loop-number.invariant.told;
  keyed = to_end c.args.options.now _ _ c.loop-number.keyed c.loop-number.invariant.read c.in_default.ensures.told;
}
