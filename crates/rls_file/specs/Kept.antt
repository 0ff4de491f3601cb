-- A replica that may be written, and stays one.
use Rattle.std.specs.Prelude.{◌≡◌, ℕ, List, None, Result, Ok}
use Rattle.rls_ident.specs.Lists.{IsIn}
use Rattle.rls_ops.specs.declared.message.Message.{Message}
use Rattle.rls_codec.specs.CodecLaws.{IsMessage}
use Rattle.rls_model.specs.declared.edit.Edit.{Edit}
use Rattle.rls_model.specs.Machine.{Done, run_on, started}
use Rattle.rls_model.specs.WellFormed.{IsEdit}
use Rattle.rls_seen.specs.Edits.{edit_fault_over}
use Rattle.rls_seen.specs.Messages.{by_parts, Course, taken_over}
use Rattle.rls_seen.specs.Sane.{IsSane}
use Rattle.rls_seen.specs.Seen.{Seen, fresh, members}
use Rattle.rls_file.specs.Files.{Content}
use Rattle.rls_file.specs.FileLaws.{IsFile}
use Rattle.rls_file.specs.Loading.{seen_in}
use Rattle.rls_file.specs.Stored.{AreWritable}

-- a fresh replica may be written
abbrev pub FreshIsWritable : Type 0
FreshIsWritable = (group me members : ℕ) → AreWritable (fresh group me members)

-- what any file says, of whatever form and by whomever it was written, is sane and may be written
abbrev pub LoadedIsWritable : Type 0
LoadedIsWritable = (bytes : List ℕ) (c : Content) → IsFile bytes c → IsSane (seen_in c) × AreWritable (seen_in c)

-- what one of these lines is read as is well formed and has no fault
abbrev pub ReadsWell : {L F : Type 0} → (Seen → L → Result Edit F) → List L → Type 0
ReadsWell {L} {F} reads lines = (s : Seen) (line : L) (edit : Edit) → IsIn line lines → reads s line ≡ Ok edit → IsEdit edit × (edit_fault_over s edit ≡ None)

-- after lines of edits of which none is refused, and what they made ready, a sane replica that may be written is such a one again
abbrev pub LinesKeepWritable : Type 0 → Type 0 → Type 0
LinesKeepWritable L F =
    (reads : Seen → L → Result Edit F) (s : Seen) (lines : List L) (last : Course) → ReadsWell reads lines → IsSane s → AreWritable s → run_on by_parts reads 1 (started None s) lines ≡ Done last → IsSane last.state × AreWritable last.state

-- and after a message of as many members was taken
abbrev pub TakenIsWritable : Type 0
TakenIsWritable = (s : Seen) (bytes : List ℕ) (m : Message) → IsSane s → AreWritable s → IsMessage bytes m → m.members ≡ members s → IsSane (taken_over s m).state × AreWritable (taken_over s m).state
