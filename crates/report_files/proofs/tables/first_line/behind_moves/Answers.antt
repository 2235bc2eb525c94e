use Rattle.std.proofs.Common.{◌∙◌, ◌++◌, subst, append_assoc, arith}
use Rattle.std.specs.Fmt.{decimal}
use Rattle.report_files.specs.tables.Tables.{IsRow, row_text}
use Rattle.report_files.proofs.tables.RowLines.{row_ends, row_plain, row_moved}
use Rattle.report_files.proofs.tables.FirstNames.{number_behind, moves_number, moves_there}
use Rattle.report_files.proofs.tables.first_line.behind_moves.Goals as goal

pub returns-in_err-rest : goal.returns-in_err-rest
returns-in_err-rest c fields names row more fits e =
    rw c.from_residual.ensures (c.in_err-rest.ensures 0 (row_text names row ++ more) (omega arith) (row_ends names fields row more c.args.counted fits) (e ∙ append_assoc (decimal 0) (row_text names row) more))

pub returns-then-not-counted : goal.returns-then-not-counted
returns-then-not-counted c fields names row more fits e =
    let read = c.in_ok-rest.ensures in
    let plain = subst (λ b. IsRow fields b row) c.if-not-counted.true fits in
    number_behind names fields row more c.args.counted fits c.args.bytes.now e c.in_ok-rest.field-0-0 c.in_ok-rest.rest.now read.0 read.1 read.2 ∙ row_plain names fields row more plain

pub returns-in_err-number : goal.returns-in_err-number
returns-in_err-number c fields names row more fits e =
    let read = c.in_ok-rest.ensures in
    let moved = subst (λ b. IsRow fields b row) c.if-not-counted.false fits in
    let behind = number_behind names fields row more c.args.counted fits c.args.bytes.now e c.in_ok-rest.field-0-0 c.in_ok-rest.rest.now read.0 read.1 read.2 in
    rw c.from_residual-in_err-number.ensures (c.in_err-number.ensures _ (behind ∙ (row_moved names fields row more moved).text))

pub returns-in_err-values : goal.returns-in_err-values
returns-in_err-values c fields names row more fits e =
    let read = c.in_ok-rest.ensures in
    let moved = subst (λ b. IsRow fields b row) c.if-not-counted.false fits in
    let behind = number_behind names fields row more c.args.counted fits c.args.bytes.now e c.in_ok-rest.field-0-0 c.in_ok-rest.rest.now read.0 read.1 read.2 in
    rw c.from_residual-in_err-values.ensures (moves_there names fields row more moved c.in_ok-rest.rest.now c.in_ok-number.number.now behind c.in_ok-number.ensures c.in_err-values.ensures)

pub returns : goal.returns
returns c fields names row more fits e =
    let read = c.in_ok-rest.ensures in
    let moved = subst (λ b. IsRow fields b row) c.if-not-counted.false fits in
    let behind = number_behind names fields row more c.args.counted fits c.args.bytes.now e c.in_ok-rest.field-0-0 c.in_ok-rest.rest.now read.0 read.1 read.2 in
    let count = c.in_ok-values.ensures in
    moves_number names fields row more moved c.in_ok-rest.rest.now c.in_ok-number.number.now behind c.in_ok-number.ensures c.in_ok-values.field-0-0 c.in_ok-values.values.now count.0 count.1 count.2
