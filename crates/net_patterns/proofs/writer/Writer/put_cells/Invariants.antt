use Rattle.std.proofs.Common.{◌≡◌, ◌≤◌, ◌+◌, ◌++◌, drop, nat_le, string_bytes, true}
use Rattle.std.specs.List.{list_all}
use Rattle.net_patterns.specs.OnGrids.{no_span, spans_from, spelling_of}
use Rattle.net_patterns.specs.Written.{written_from}
use Rattle.net_patterns.proofs.writer.Writer.put_cells.Given as goal

abbrev pub invariant-loop-node : goal.invariant-loop-node
invariant-loop-node l = record {
  kind : l.self.kind ≡ l.fn.self.kind;
  state : 1 ≤ l.span.state;
  near : l.span.column + l.span.count ≤ 65536;
  states : list_all (λ v. nat_le v 255) (drop l.node l.values) ≡ true;
  text : string_bytes l.self.out ++ written_from (spelling_of l.fn.self.kind) l.self.column l.self.row (spans_from l.width l.node l.span (drop l.node l.values)) ≡ string_bytes l.fn.self.out ++ written_from (spelling_of l.fn.self.kind) l.fn.self.column l.fn.self.row (spans_from l.width 0 no_span l.values);
}
