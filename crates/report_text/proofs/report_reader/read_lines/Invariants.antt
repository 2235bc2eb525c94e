use Rattle.std.proofs.Common.{◌≡◌, ◌++◌, All, length, map, vec_len}
use Rattle.report_text.specs.Report.{node_lines}
use Rattle.report_text.specs.ReadReport.{IsStateOf}
use Rattle.report_text.proofs.report_reader.read_lines.Given as goal

abbrev pub invariant-loop-node : goal.invariant-loop-node
invariant-loop-node l = record {
  count : vec_len l.states ≡ l.node;
  fit : All (IsStateOf (length l.fields)) l.states.items;
  done : l.lines ≡ node_lines (map (λ f. f.now) l.fields) 0 l.states.items ++ l.rest;
}
