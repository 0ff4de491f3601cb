-- What is stored of a history of which each operation has a spelling.
use Rattle.std.specs.Prelude.{◌≡◌, ◌≤◌, ℕ, List, [], length, None, Result, Ok}
use Rattle.rls_ident.specs.declared.limits.TheConstants.{FILE_BYTES}
use Rattle.rls_ident.specs.Lists.{IsIn}
use Rattle.rls_ops.specs.declared.message.Message.{Message}
use Rattle.rls_ops.specs.Spelling.{message_bytes}
use Rattle.rls_codec.specs.CodecLaws.{IsMessage}
use Rattle.rls_model.specs.declared.edit.Edit.{Edit}
use Rattle.rls_model.specs.Editing.{edit_fault}
use Rattle.rls_model.specs.EditRun.{Done, run_lines}
use Rattle.rls_model.specs.History.{Fresh, members_of}
use Rattle.rls_model.specs.Legal.{AreNumbers}
use Rattle.rls_model.specs.Receiving.{State}
use Rattle.rls_model.specs.Taking.{Progress, message_for, message_told, take_message}
use Rattle.rls_model.specs.WellFormed.{IsEdit}
use Rattle.rls_seen.specs.Kept.{parts_over}
use Rattle.rls_seen.specs.Sane.{IsSane}
use Rattle.rls_seen.specs.Seen.{Seen}
use Rattle.rls_seen.specs.Stands.{StandsFor}
use Rattle.rls_file.specs.Files.{Snapshot, file_bytes, newest_form}
use Rattle.rls_file.specs.FileLaws.{IsFile}
use Rattle.rls_file.specs.Storable.{IsStorable}
use Rattle.rls_file.specs.Stored.{AreWritable}

-- the history in which nothing has happened is one
abbrev pub FreshIsStorable : Type 0
FreshIsStorable = (group me members : ℕ) → AreNumbers group me members → IsStorable (record { history = Fresh group me members; waiting = [] })

-- so is the history after lines of edits of which none is refused, if what a line is read as is well formed and has no fault
abbrev pub LinesKeepStorable : Type 0 → Type 0 → Type 0
LinesKeepStorable L F =
    (reads : State → L → Result Edit F) (t : State) (lines : List L) (last : Progress) → ((line : L) → IsIn line lines → (u : State) (edit : Edit) → reads u line ≡ Ok edit → IsEdit edit × (edit_fault u.history edit ≡ None)) → IsStorable t
    → run_lines reads t lines ≡ Done last → IsStorable last.state

-- and after a message of as many members was taken
abbrev pub TakenIsStorable : Type 0
TakenIsStorable = (t : State) (bytes : List ℕ) (m : Message) → IsMessage bytes m → m.members ≡ members_of t.history → IsStorable t → IsStorable (take_message t m).state

-- its message for a member has a spelling
abbrev pub SentIsMessage : Type 0
SentIsMessage = (t : State) (to : ℕ) → IsStorable t → IsMessage (message_bytes (message_for t.history to)) (message_for t.history to)

-- and so has the one for a member that told these counts
abbrev pub ToldIsMessage : Type 0
ToldIsMessage = (t : State) (to : ℕ) (told : List ℕ) → IsStorable t → IsMessage (message_bytes (message_told t.history to told)) (message_told t.history to told)

-- a sane replica that stands for it and may be written is read back, unless its file is too long: its numbers, identifiers and characters
-- fit the fields of the format
abbrev pub StorableIsReadBack : Type 0
StorableIsReadBack = (s : Seen) (t : State) → StandsFor s t → IsSane s → AreWritable s → IsStorable t → length (file_bytes (parts_over s)) ≤ FILE_BYTES → IsFile (file_bytes (parts_over s)) (Snapshot newest_form (parts_over s))
