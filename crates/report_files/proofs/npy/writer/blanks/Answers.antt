use Rattle.std.proofs.Common.{ℕ}
use Rattle.std.proofs.lemmas.List.{take-replicate}
use Rattle.report_files.proofs.npy.writer.blanks.Goals as goal

pub returns : goal.returns
returns c = take-replicate {X = ℕ} c.args.count 128 32 c.requires.few
