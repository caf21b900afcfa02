-- A writer of lines.
use Rattle.std.specs.Prelude.{◌≡◌, ◌++◌, ℕ, false, List, Vec}
use Rattle.std.specs.declared.alloc.Global.{Global}
use Rattle.csv.specs.Writing.{default_writer, fields_written, has_written, writer_pending, writer_setup, writer_under}
use Rattle.csv.specs.declared.writer.Writer.{Writer}

-- between two lines, with the defaults of CSV
pub record IsFresh (w : Writer (Vec ℕ Global)) : Type 0 where
  pub setup : writer_setup w ≡ default_writer
  pub fields : fields_written w ≡ 0
  pub wrote : has_written w ≡ false

-- what was written
abbrev pub text_in : Writer (Vec ℕ Global) → List ℕ
text_in w = (writer_under w).items ++ writer_pending w
