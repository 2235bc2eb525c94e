use Rattle.std.proofs.Common.{subst}
use Rattle.report_files.specs.npy.Headers.{IsHeader}
use Rattle.report_files.proofs.npy.Fronts.{file_once, file_version}
use Rattle.report_files.proofs.npy.reader.column_in.Goals as goal

pub returns-in_default : goal.returns-in_default
returns-in_default c = (
  file_version c.args.bytes.now c.in_ok-header.header.now c.in_ok-header.body.now c.in_ok-header.ensures,
  λ kind shape body whole.
      let once = file_once c.args.bytes.now whole.header body c.in_ok-header.header.now c.in_ok-header.body.now whole.file c.in_ok-header.ensures in
      c.in_default.ensures kind shape (subst (λ h. IsHeader h kind shape) once.0 whole.words),
)
