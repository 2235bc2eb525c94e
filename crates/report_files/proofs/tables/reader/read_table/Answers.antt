use Rattle.std.proofs.Common.{Some, None, refl}
use Rattle.report_files.proofs.tables.Tables.{round_read, round_none}
use Rattle.report_files.proofs.tables.BadLines.{refused_all}
use Rattle.report_files.proofs.tables.reader.read_table.Goals as goal

pub returns-in-Some-clause-one : goal.returns-in-Some-clause-one
returns-in-Some-clause-one c t has =
    let r = round_read c.args.bytes.now t has c.in-Some.round c.in-Some.lines.now c.in-Some.ensures.1 c.in-Some.ensures.0 in
    c.read_lines.ensures.one t has.is_table r.0 r.1

pub returns-in-Some-clause-only : goal.returns-in-Some-clause-only
returns-in-Some-clause-only c t has =
    let r = round_read c.args.bytes.now t has c.in-Some.round c.in-Some.lines.now c.in-Some.ensures.1 c.in-Some.ensures.0 in
    c.read_lines.ensures.only t has.is_table r.0 r.1

pub returns-in-None-clause-one : goal.returns-in-None-clause-one
returns-in-None-clause-one c t has =
    let r = round_none c.args.bytes.now t has c.in-None.ensures in
    c.read_lines-in-None.ensures.one t has.is_table r.0 r.1

pub returns-in-None-clause-only : goal.returns-in-None-clause-only
returns-in-None-clause-only c t has =
    let r = round_none c.args.bytes.now t has c.in-None.ensures in
    c.read_lines-in-None.ensures.only t has.is_table r.0 r.1

pub returns-in-Some-clause-refused : goal.returns-in-Some-clause-refused
returns-in-Some-clause-refused c = refused_all (Some c.in-Some.round) c.args.bytes.now c.in-Some.lines.now (c.in-Some.ensures.1, c.in-Some.ensures.0) c.read_lines.result c.read_lines.ensures.refused

pub returns-in-None-clause-refused : goal.returns-in-None-clause-refused
returns-in-None-clause-refused c = refused_all None c.args.bytes.now c.args.bytes.now (c.in-None.ensures, refl) c.read_lines-in-None.result c.read_lines-in-None.ensures.refused
