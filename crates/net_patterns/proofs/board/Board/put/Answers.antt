use Rattle.net_patterns.proofs.BoardSteps.{comes-dead, comes-row_end}
use Rattle.net_patterns.proofs.board.Board.put.Goals as goal

pub returns-in-Dead-clause-comes : goal.returns-in-Dead-clause-comes
returns-in-Dead-clause-comes c =
    λ pieces. rw (c.in-Dead.is, c.farther-self.ensures) (comes-dead c.args.self.now.cells.items c.args.self.now.column c.args.self.now.row c.args.line c.args.count pieces)

pub returns-in-RowEnd-clause-comes : goal.returns-in-RowEnd-clause-comes
returns-in-RowEnd-clause-comes c =
    λ pieces. rw (c.in-RowEnd.is, c.farther-self-in-RowEnd.ensures) (comes-row_end c.args.self.now.cells.items c.args.self.now.column c.args.self.now.row c.args.line c.args.count pieces c.requires.count)
