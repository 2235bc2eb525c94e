use Rattle.std.proofs.Common.{map, arith}
use Rattle.net_initial.specs.declared.node_list.NodeLine.{NodeLine}
use Rattle.net_initial.specs.NodeLists.{listed_in}
use Rattle.net_initial.proofs.ListLines.{lines_more, rest_shorter}
use Rattle.net_initial.proofs.node_list.node_lines.Goals as goal

pub loop-rest-preserved : goal.loop-rest-preserved
loop-rest-preserved c =
    let rest = c.loop-rest.rest.now in
    let line = c.split_line.result.0.now in
    let behind = c.split_line.result.1.now in
    let less = rest_shorter rest behind c.split_line.ensures.rest c.loop-rest-test.ensures in
    let room = c.loop-rest.invariant.room in
    record {
      room = omega (arith, less, room);
      lines = rw c.in_ok-put_line.ensures
          (lines_more c.loop-rest.number rest line behind (map (λ (l : NodeLine). (l.line, l.text.now)) c.loop-rest.lines.items) (listed_in 1 c.args.list.now) c.split_line.ensures.line c.split_line.ensures.rest c.loop-rest.invariant.lines);
    }
