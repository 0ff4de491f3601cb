-- What a file says: the events of a replica in form 1, and its parts in the forms 2 to 4.
use Rattle.std.specs.Prelude.{ℕ, List, [], ◌∷◌, ◌++◌}
use Rattle.std.specs.List.{concat}
use Rattle.rls_ops.specs.Spelling.{four_bytes, counted, vector_bytes, op_bytes}
use Rattle.rls_model.specs.History.{Entry, Accepted, Acknowledged, History, Fresh, Then, group_of, me_of, members_of}
use Rattle.rls_model.specs.Receiving.{State}
use Rattle.rls_model.specs.declared.parts.Parts.{Parts}
pub use Rattle.rls_fields.specs.Fields.{head_bytes, stem_bytes, own_of, others_of, stems_bytes, rest_of_epoch, epoch_bytes, text_run_bytes, newest_form, file_bytes}
pub use Rattle.rls_fields.specs.Fields.{stem_size, rows_place, stems_place, epochs_place, text_place, log_place, held_place, bytes_before, stem_place}
unfoldable pub use Rattle.rls_fields.specs.Fields.{snapshot_bytes, place_of_broken}

-- ---- form 1

-- an accepted operation, or a counted acknowledgement
abbrev pub entry_bytes : Entry → List ℕ
entry_bytes (Accepted o) = 0 ∷ op_bytes o
entry_bytes (Acknowledged from counts) = 1 ∷ concat (four_bytes from ∷ vector_bytes counts ∷ [])

-- the entries of a history, in order
abbrev pub entries_of : History → List Entry
entries_of (Fresh group me members) = []
entries_of (Then H e) = entries_of H ++ e ∷ []

-- a journal: the entries of the history and the waiting operations
unfoldable pub journal_bytes : State → List ℕ
journal_bytes s = concat
    (head_bytes 1 (group_of s.history) (members_of s.history) (me_of s.history) ∷ counted entry_bytes (entries_of s.history) ∷ counted op_bytes s.waiting ∷ [])

-- what a file says: a history and what waits, or parts in this form
pub data Content : Type 0 where
  Journal : (state : State) → Content
  Snapshot : (form : ℕ) → (parts : Parts) → Content

abbrev pub content_bytes : Content → List ℕ
content_bytes (Journal s) = journal_bytes s
content_bytes (Snapshot form p) = snapshot_bytes form p
