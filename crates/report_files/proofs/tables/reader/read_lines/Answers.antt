use Rattle.std.proofs.Common.{◌∙◌, All, length, map, sym, ap, subst}
use Rattle.std.proofs.lemmas.List.{length-map}
use Rattle.report_files.specs.tables.Tables.{IsRow, is_counted, row_lines}
use Rattle.report_files.specs.tables.Stops.{IsStopped, AreFirstNames, round_lines}
use Rattle.report_files.proofs.tables.Tables.{first_row, err_memory, lines_refused, table_same}
use Rattle.report_files.proofs.tables.reader.read_lines.Goals as goal

pub returns-in_err-rows-clause-only : goal.returns-in_err-rows-clause-only
returns-in_err-rows-clause-only c t is round e =
    let counted = c.is_counted-counted.ensures ∙ ap is_counted (sym round) in
    let first = first_row t.fields (length t.fields) (is_counted t.round) c.args.lines.now t.rows is.some is.rows e in
    let same = c.in_ok-fields.ensures.only t.fields first.row first.rest is.fields (subst (λ b. IsRow (length t.fields) b first.row) (sym counted) first.fits) first.is in
    let names = ap (map (λ f. f.now)) c.deref.ensures.value ∙ same in
    let before = c.round_lines-before.ensures ∙ ap round_lines (sym round) in
    let fault = c.in_err-rows.field-0.0 in
    let stop = subst (λ n. IsStopped (map (λ f. f.now) c.deref.result.now) c.is_counted-counted.result n c.args.lines.now fault) before c.in_err-rows.ensures.refused in
    let stopped = subst (λ b. IsStopped (map (λ f. f.now) c.deref.result.now) b (round_lines t.round) c.args.lines.now fault) counted stop in
    err_memory t.fields (is_counted t.round) is.fields.few c.args.lines.now t.rows is.some is.few is.rows e (round_lines t.round) fault c.from_residual-in_err-rows.result c.from_residual-in_err-rows.ensures.1 (subst (λ ns. IsStopped ns (is_counted t.round) (round_lines t.round) c.args.lines.now fault) names stopped)

pub returns-in_err-rows-clause-refused : goal.returns-in_err-rows-clause-refused
returns-in_err-rows-clause-refused c =
    let fault = c.in_err-rows.field-0.0 in
    let names = ap (map (λ f. f.now)) c.deref.ensures.value in
    let stop = subst (λ n. IsStopped (map (λ f. f.now) c.deref.result.now) c.is_counted-counted.result n c.args.lines.now fault) c.round_lines-before.ensures c.in_err-rows.ensures.refused in
    let stopped = subst (λ b. IsStopped (map (λ f. f.now) c.deref.result.now) b (round_lines c.args.round) c.args.lines.now fault) c.is_counted-counted.ensures stop in
    let found = subst (λ b. AreFirstNames b c.args.lines.now (map (λ f. f.now) c.in_ok-fields.fields.items)) c.is_counted-counted.ensures (record { are_fields = c.in_ok-fields.ensures.fields; only = c.in_ok-fields.ensures.only }) in
    lines_refused c.args.round c.args.lines.now (map (λ f. f.now) c.deref.result.now) (subst (AreFirstNames (is_counted c.args.round) c.args.lines.now) (sym names) found) fault c.from_residual-in_err-rows.result c.from_residual-in_err-rows.ensures.1 stopped

pub returns-clause-one : goal.returns-clause-one
returns-clause-one c t is round e =
    let counted = c.is_counted-counted.ensures ∙ ap is_counted (sym round) in
    let first = first_row t.fields (length t.fields) (is_counted t.round) c.args.lines.now t.rows is.some is.rows e in
    let same = c.in_ok-fields.ensures.only t.fields first.row first.rest is.fields (subst (λ b. IsRow (length t.fields) b first.row) (sym counted) first.fits) first.is in
    let names = ap (map (λ f. f.now)) c.deref.ensures.value ∙ same in
    let count = sym (length-map c.deref.result.now (λ f. f.now)) ∙ ap length names in
    let fits = subst (λ n. All (IsRow n (is_counted t.round)) c.in_ok-rows.rows.items) count (subst (λ b. All (IsRow (length c.deref.result.now) b) c.in_ok-rows.rows.items) counted c.in_ok-rows.ensures.rows) in
    c.new.ensures.parts ∙ table_same t is c.args.lines.now e c.args.round (sym round) _ same c.in_ok-rows.rows.items fits (c.in_ok-rows.ensures.text ∙ ap (λ ns. row_lines ns 0 c.in_ok-rows.rows.items) names)
