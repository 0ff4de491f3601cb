-- What is stored is a file again.
-- Why: docs/DECISIONS.md, 43.
use Rattle.std.specs.Prelude.{◌≡◌, ◌≢◌, ◌≤◌, All, None, length}
use Rattle.rls_ident.specs.declared.limits.TheConstants.{OPERATION_BYTES, FILE_BYTES}
use Rattle.rls_ident.specs.Lists.{IsIn}
use Rattle.rls_ops.specs.declared.op.Op.{Op}
use Rattle.rls_ops.specs.Sizes.{op_size}
use Rattle.rls_codec.specs.Spelled.{IsSpelledIfFit}
use Rattle.rls_model.specs.declared.parts.Parts.{Parts}
use Rattle.rls_seen.specs.Kept.{parts_over}
use Rattle.rls_seen.specs.Over.{first_ready}
use Rattle.rls_seen.specs.Sane.{IsSane}
use Rattle.rls_seen.specs.Seen.{Seen}
use Rattle.rls_fields.specs.Written.{FitsRow, FitsFormer, FitsChars}
use Rattle.rls_file.specs.Files.{Snapshot, newest_form, file_bytes}
use Rattle.rls_file.specs.FileLaws.{IsFile}

-- what must hold of a sane replica so that it may be written: no operation that is kept or waits has more bytes than an operation may
-- have, and those that wait are of other members and have causes that aren't all there
pub record AreWritable (s : Seen) : Type 0 where
  pub log : (o : Op) → IsIn o s.log → op_size o ≤ OPERATION_BYTES
  pub waiting : (w : Op) → IsIn w s.waiting → op_size w ≤ OPERATION_BYTES
  pub others : (w : Op) → IsIn w s.waiting → w.author ≢ s.acks.me
  pub rest : first_ready s ≡ None

-- what the types of the code give: the numbers, identifiers and characters of the parts fit the fields of the format. `IsSane` doesn't
-- say it, since it bounds neither the numbers in identifiers nor the counts in the rows of others
pub record FitFields (p : Parts) : Type 0 where
  pub rows : All FitsRow p.rows
  pub epochs : All FitsFormer p.epochs
  pub text : All FitsChars p.text
  pub log : All IsSpelledIfFit p.log
  pub held : All IsSpelledIfFit p.held

-- the parts of a sane replica that may be written are a file, unless that is too long
abbrev pub StoredAgain : Type 0
StoredAgain = (s : Seen) → IsSane s → AreWritable s → FitFields (parts_over s) → length (file_bytes (parts_over s)) ≤ FILE_BYTES
    → IsFile (file_bytes (parts_over s)) (Snapshot newest_form (parts_over s))
