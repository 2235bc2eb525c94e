use Rattle.report_files.proofs.npy.Arrays.{every_verdict}
use Rattle.report_files.proofs.npy.Unique.{refused}
use Rattle.report_files.proofs.npy.reader.read_npy.Goals as goal

pub returns-clause-every_array : goal.returns-clause-every_array
returns-clause-every_array c = every_verdict c.args.bytes.now c.read_column.result c.read_column.ensures.reading

pub returns-clause-refused : goal.returns-clause-refused
returns-clause-refused c = refused c.args.bytes.now c.read_column.result c.read_column.ensures.reading c.read_column.ensures.memory
