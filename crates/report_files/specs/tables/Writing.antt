-- A writer into memory.
use Rattle.std.specs.Prelude.{◌≡◌, ℕ, false, List, ◌++◌}
use Rattle.std.specs.Global.{Vec}
use Rattle.csv.specs.declared.writer.Writer.{Writer}
use Rattle.csv.specs.Writing.{default_writer, fields_written, has_written, writer_pending, writer_setup, writer_under}

-- what was written: what the writer underneath holds, and what is still to come to it
abbrev pub written : Writer (Vec ℕ) → List ℕ
written w = (writer_under w).items ++ writer_pending w

-- the writer has its defaults, and no record is begun
pub record IsReady (w : Writer (Vec ℕ)) : Type 0 where
  pub setup : writer_setup w ≡ default_writer
  pub fields : fields_written w ≡ 0
  pub fresh : has_written w ≡ false
