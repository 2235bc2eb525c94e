use Rattle.std.proofs.Common.{◌≡◌, ◌≤◌, ◌∷◌, ◌-◌, List, Result, Ok}
use Rattle.net_patterns.specs.declared.fault.PatternFault.{PatternFault}
use Rattle.net_patterns.specs.declared.board.Mark.TheVariants.{Alive}
use Rattle.net_patterns.specs.Cells.{Run}
use Rattle.net_patterns.specs.Steps.{comes}
use Rattle.net_patterns.proofs.board.Board.put_cells.Given as goal

abbrev pub invariant-loop : goal.invariant-loop
invariant-loop l = record {
  column : l.self.column ≤ 65536;
  row : l.self.row ≤ 65536;
  comes : (pieces : List (Result Run PatternFault)) → comes l.fn.self.cells.items l.fn.self.column l.fn.self.row (Ok (record { line = l.line; count = l.count; mark = Alive l.state }) ∷ pieces) ≡ comes l.self.cells.items l.self.column l.self.row (Ok (record { line = l.line; count = l.count - l.counter; mark = Alive l.state }) ∷ pieces);
}
