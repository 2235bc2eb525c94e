use Rattle.std.proofs.Common.{◌+◌, ◌-◌, ◌∙◌, arith}
use Rattle.std.proofs.lemmas.Result.{err_from_is_err_and}
use Rattle.net_patterns.proofs.BoardSteps.{comes-one_less}
use Rattle.net_patterns.proofs.board.Board.put_cells.Goals as goal

pub returns-in_err-put_cell-clause-comes : goal.returns-in_err-put_cell-clause-comes
returns-in_err-put_cell-clause-comes c =
    let p = err_from_is_err_and c.from_residual.result c.from_residual.ensures.1 in
    rw (p.1, p.2)
    (λ other pieces.
    c.loop.invariant.comes pieces
    ∙ comes-one_less c.loop.self.cells.items c.loop.self.column c.loop.self.row c.args.line c.args.state c.args.count c.loop.counter pieces c.loop-test.true
    ∙ c.in_err-put_cell.ensures.comes other (c.args.count - (c.loop.counter + 1)) pieces)

pub loop-preserved : goal.loop-preserved
loop-preserved c =
    record {
      column = c.in_ok-put_cell.ensures.column;
      row = omega (arith, c.in_ok-put_cell.ensures.row);
      comes = λ pieces.
          c.loop.invariant.comes pieces
          ∙ comes-one_less c.loop.self.cells.items c.loop.self.column c.loop.self.row c.args.line c.args.state c.args.count c.loop.counter pieces c.loop-test.true
          ∙ c.in_ok-put_cell.ensures.comes (c.args.count - (c.loop.counter + 1)) pieces;
    }
