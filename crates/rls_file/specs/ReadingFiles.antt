-- Reading files.
use Rattle.std.specs.Prelude.{ℕ, zero, suc, Bool, true, false, ◌&&◌, List, [], ◌==◌, codes, Option, Some, None, Result, Ok, Err, nat_lt, nat_le}
use Rattle.std.specs.Int.{w32, w64}
use Rattle.rls_ops.specs.declared.op.Op.{Op}
use Rattle.rls_codec.specs.Reading.{Read, ◌>>=◌, with_rule, byte_at, number_at, counted_at, vector_at, op_at, magic_at, is_member_count, whole}
use Rattle.rls_model.specs.Answers.{Answer, Applies}
use Rattle.rls_model.specs.History.{Entry, Accepted, Acknowledged, History, Fresh, Then, members_of}
use Rattle.rls_model.specs.History.{count as count_in}
use Rattle.rls_model.specs.Stability.{is_counted}
use Rattle.rls_model.specs.Receiving.{State, replay}
use Rattle.rls_model.specs.declared.parts.Parts.{Parts}
use Rattle.rls_parts.specs.Rules.{Broken, broken, may_wait}
use Rattle.rls_file.specs.Files.{newest_form, Content, Journal, Snapshot, place_of_broken}
pub use Rattle.rls_fields.specs.ReadingFields.{is_above, left_at, lefts_at, low_at, run_before, ops_at}
unfoldable pub use Rattle.rls_fields.specs.ReadingFields.{stem_at, stems_at, epoch_at, text_run_at, snapshot_at}

-- ---- a journal

-- so many parts, each read in a state: the state after the last
unfoldable pub steps_at : {S A : Type 0} → (S → List ℕ → Read A) → (S → A → S) → S → ℕ → List ℕ → Read S
steps_at part next state zero bytes = Ok (state, bytes)
steps_at part next state (suc n) bytes = part state bytes >>= λ first. steps_at part next (next state first.0) n first.1

abbrev pub applies : Answer → Bool
applies Applies = true
applies _ = false

-- the operation may come next: it is applied where nothing waits
abbrev pub may_be_next : History → Op → Bool
may_be_next H o = applies (replay (record { history = H; waiting = [] }) o)

-- an acknowledgement is counted
abbrev pub is_new : History → Entry → Bool
is_new H (Accepted o) = true
is_new H (Acknowledged from counts) = is_counted H from counts

abbrev pub entry_of_kind : History → ℕ → List ℕ → Read Entry
entry_of_kind H zero bytes = with_rule (may_be_next H) (op_at (members_of H)) bytes >>= λ o. Ok (Accepted o.0, o.1)
entry_of_kind H (suc k) bytes = do
  from ← with_rule (λ n. nat_lt n (members_of H)) (number_at w32) bytes
  counts ← vector_at (members_of H) from.1
  Ok (Acknowledged from.0 counts.0, counts.1)

abbrev pub any_entry_at : History → List ℕ → Read Entry
any_entry_at H bytes = with_rule (λ k. nat_le k 1) byte_at bytes >>= λ kind. entry_of_kind H kind.0 kind.1

-- an entry after this history; the rule of an acknowledgement has the place of its kind
unfoldable pub entry_at : History → List ℕ → Read Entry
entry_at H bytes = with_rule (is_new H) (any_entry_at H) bytes

-- what follows the own number in form 1
unfoldable pub journal_at : ℕ → ℕ → ℕ → List ℕ → Read State
journal_at group members me bytes = do
  count ← number_at w32 bytes
  history ← steps_at entry_at Then (Fresh group me members) count.0 count.1
  waiting ← counted_at (λ before. with_rule (may_wait members me (count_in history.0) before) (op_at members)) history.1
  Ok (record { history = history.0; waiting = waiting.0 }, waiting.1)

-- ---- files

abbrev pub is_file_form : ℕ → Bool
is_file_form n = nat_lt 0 n && nat_le n newest_form

-- what follows the head of a file
abbrev pub content_at : ℕ → ℕ → ℕ → ℕ → Bool → List ℕ → Read Content
content_at form group members me true bytes = journal_at group members me bytes >>= λ s. Ok (Journal s.0, s.1)
content_at form group members me false bytes = snapshot_at form group members me bytes >>= λ p. Ok (Snapshot form p.0, p.1)

-- the magic text and a form
abbrev pub form_at : List ℕ → Read ℕ
form_at bytes = do
  magic ← magic_at (codes "RLSF") bytes
  with_rule is_file_form byte_at magic.1

unfoldable pub file_at : List ℕ → Read Content
file_at bytes = do
  magic ← magic_at (codes "RLSF") bytes
  form ← with_rule is_file_form byte_at magic.1
  group ← number_at w64 form.1
  members ← with_rule is_member_count (number_at w32) group.1
  me ← with_rule (λ n. nat_lt n members.0) (number_at w32) members.1
  content_at form.0 group.0 members.0 me.0 (form.0 == 1) me.1

-- ---- the rules on all parts

-- the content, or the place that a broken rule names
abbrev pub unless_broken : ℕ → Parts → Option Broken → Result Content ℕ
unless_broken form p None = Ok (Snapshot form p)
unless_broken form p (Some b) = Err (place_of_broken form p b)

-- the content, where no rule of its parts is broken
abbrev pub tested : Content → Result Content ℕ
tested (Journal s) = Ok (Journal s)
tested (Snapshot form parts) = unless_broken form parts (broken parts)

-- what the file says, or the place of the first fault
unfoldable pub file_of : List ℕ → Result Content ℕ
file_of bytes = whole bytes (file_at bytes) >>= tested
