-- The statements of the laws.
use Rattle.std.specs.Prelude.{◌≡◌, ◌<◌, ℕ, true, false, List, [], length, sum_by, None, IsTrue, IsFalse}
use Rattle.rls_ident.specs.declared.tuple.Tuple.{Tuple}
use Rattle.rls_ident.specs.declared.epoch_name.EpochName.TheVariants.{Of}
use Rattle.rls_rename.specs.Connected.{spanned_renamings}
use Rattle.rls_rename.specs.Tree.{is_kept}
use Rattle.rls_ops.specs.declared.op.Op.{Op}
use Rattle.rls_ops.specs.declared.op.Body.TheVariants.{Insert}
use Rattle.rls_ops.specs.declared.message.Message.{Message}
use Rattle.rls_ops.specs.Rows as rows
use Rattle.rls_model.specs.declared.edit.Edit.{Edit}
use Rattle.rls_model.specs.Document.{text, idents}
use Rattle.rls_model.specs.Editing.{made, edit_fault}
use Rattle.rls_model.specs.Epochs.{greatest}
use Rattle.rls_model.specs.History.{Fresh, count}
use Rattle.rls_model.specs.Legal.{AreNumbers}
use Rattle.rls_model.specs.Parts.{parts}
use Rattle.rls_model.specs.Receiving.{State, accept, receive, receive_after, replay, replay_after, release, release_after, release_all}
use Rattle.rls_model.specs.Retained.{retained, counts}
use Rattle.rls_model.specs.Stability.{is_counted}
use Rattle.rls_model.specs.EditRun.{run_edits}
use Rattle.rls_model.specs.Laws.{AreEdits}
use Rattle.rls_model.specs.Machine.{started, run_on, read_edit_on}
use Rattle.rls_model.specs.MachineLaws.{StepsAgree, EditsAgree, IsSameRun}
use Rattle.rls_model.specs.Taking.{by_history, Limit, acknowledge, take_within, taken, message_for, message_told}
use Rattle.rls_model.specs.WellFormed.{IsOp, IsEdit, IsVector}
use Rattle.rls_seen.specs.Seen.{Seen, vector, members, fresh, text_over, idents_over, greatest_over, unstable_over}
use Rattle.rls_seen.specs.Over.{answer_over, received, replayed, release_over, released, released_all, acknowledged}
use Rattle.rls_seen.specs.Edits.{made_over, edit_fault_over, edited}
use Rattle.rls_seen.specs.Messages.{by_parts, message_over, message_told_over, taken_within, taken_of, IsMessage}
use Rattle.rls_seen.specs.Kept.{needed_over, dropped, retained_over, counts_over, kept_operations, kept_epochs, kept_former, parts_over}
use Rattle.rls_seen.specs.Sane.{IsSane, IsInRange, MayApply, IsNewborn}
use Rattle.rls_seen.specs.Stands.{StandsFor}

-- ---- by each history that a replica stands for

-- a fresh replica stands for the history in which nothing has happened
abbrev pub FreshStands : Type 0
FreshStands = (group me n : ℕ) → AreNumbers group me n → StandsFor (fresh group me n) (record { history = Fresh group me n; waiting = [] })

-- receiving
abbrev pub ReceivedStands : Type 0
ReceivedStands = (s : Seen) (t : State) (o : Op) → IsOp o → StandsFor s t → (answer_over false s o ≡ receive t o) × StandsFor (received s o) (receive_after t o)

-- receiving also the replica's own operations
abbrev pub ReplayedStands : Type 0
ReplayedStands = (s : Seen) (t : State) (o : Op) → IsOp o → StandsFor s t → (answer_over true s o ≡ replay t o) × StandsFor (replayed s o) (replay_after t o)

-- releasing
abbrev pub ReleasedStands : Type 0
ReleasedStands = (s : Seen) (t : State) → StandsFor s t → (release_over s ≡ release t) × StandsFor (released s) (release_after t)

-- releasing until none is ready
abbrev pub ReleasedAllStands : Type 0
ReleasedAllStands = (s : Seen) (t : State) → StandsFor s t → StandsFor (released_all s) (release_all t)

-- noting an acknowledgement
abbrev pub AcknowledgedStands : Type 0
AcknowledgedStands = (s : Seen) (t : State) (a : ℕ) (v : List ℕ) → a < members s → IsVector (members s) v → StandsFor s t →
    (rows.counts s.acks a v ≡ is_counted t.history a v) × StandsFor (acknowledged s a v) (acknowledge t a v)

-- editing: the fault, the operation, and the replica with it
abbrev pub EditedStands : Type 0
EditedStands = (s : Seen) (t : State) (edit : Edit) → StandsFor s t →
    (edit_fault_over s edit ≡ edit_fault t.history edit)
    × (made_over s edit ≡ made t.history edit)
    × (IsEdit edit → edit_fault_over s edit ≡ None → StandsFor (edited s edit) (accept t (made t.history edit)))

-- taking a message, in at most this many steps
abbrev pub TakenStands : Type 0
TakenStands = (limit : Limit) (s : Seen) (t : State) (m : Message) → IsMessage (members s) m → StandsFor s t →
    (taken_of (taken_within limit s m) ≡ taken (take_within limit t m)) × StandsFor (taken_within limit s m).state (take_within limit t m).state

-- the machines of parts and of histories agree, where the replica stands for the history and what waits
abbrev pub MachinesAgree : Type 0
MachinesAgree = StepsAgree by_parts by_history IsOp StandsFor × EditsAgree by_parts by_history IsEdit StandsFor

-- edits, one after another, all run on both or stop on both at the same one for the same fault
abbrev pub EditsRunAlike : Type 0
EditsRunAlike = (s : Seen) (t : State) (edits : List Edit) → AreEdits edits → StandsFor s t → IsSameRun StandsFor (run_on by_parts (read_edit_on by_parts) 1 (started None s) edits) (run_edits t edits)

-- the message for a member
abbrev pub MessageAlike : Type 0
MessageAlike = (s : Seen) (t : State) (to : ℕ) → to < members s → StandsFor s t → message_over s to ≡ message_for t.history to

-- and for one that told these counts
abbrev pub ToldAlike : Type 0
ToldAlike = (s : Seen) (t : State) (to : ℕ) (told : List ℕ) → to < members s → length told ≡ members s → StandsFor s t → message_told_over s to told ≡ message_told t.history to told

-- what is shown: text, identifiers, greatest epoch and vector
abbrev pub ShownAlike : Type 0
ShownAlike = (s : Seen) (t : State) → StandsFor s t →
    (text_over s ≡ text t.history) × (idents_over s ≡ idents t.history) × (greatest_over s ≡ greatest t.history) × (vector s ≡ count t.history)

-- numbers and parts
abbrev pub NumbersAlike : Type 0
NumbersAlike = (s : Seen) (t : State) → StandsFor s t → (retained_over s ≡ retained t.history) × (counts_over s ≡ counts t) × (parts_over s ≡ parts t)

-- dropping leaves the history
abbrev pub DroppedStands : Type 0
DroppedStands = (s : Seen) (t : State) → StandsFor s t → StandsFor (dropped s) t

-- ---- without a history

-- a replica is sane at first, and each step leaves it so
abbrev pub FreshSane : Type 0
FreshSane = (group me n : ℕ) → AreNumbers group me n → IsSane (fresh group me n)

abbrev pub ReceivedSane : Type 0
ReceivedSane = (s : Seen) (o : Op) → IsSane s → IsOp o → IsInRange o.body → IsSane (received s o) × IsSane (replayed s o)

abbrev pub ReleasedSane : Type 0
ReleasedSane = (s : Seen) → IsSane s → IsSane (released s) × IsSane (released_all s)

abbrev pub AcknowledgedSane : Type 0
AcknowledgedSane = (s : Seen) (a : ℕ) (v : List ℕ) → IsSane s → a < members s → length v ≡ members s → IsSane (acknowledged s a v)

-- an edit's operation may be applied
abbrev pub EditedSane : Type 0
EditedSane = (s : Seen) (edit : Edit) → IsSane s → IsEdit edit → edit_fault_over s edit ≡ None → MayApply s (made_over s edit) × IsSane (edited s edit)

-- after dropping, as much is kept as is unstable and retained
abbrev pub DroppedSane : Type 0
DroppedSane = (s : Seen) → IsSane s →
    IsSane (dropped s)
    × (kept_operations (dropped s) ≡ length (unstable_over s))
    × (kept_epochs (dropped s) ≡ length (retained_over s))
    × (kept_former (dropped s) ≡ sum_by (λ R. length R.former) (spanned_renamings s.epochs.nodes (greatest_over s) (needed_over s)))

-- what an insertion that may be applied adds is new and rises
abbrev pub InsertsNew : Type 0
InsertsNew = (s : Seen) (o : Op) (first : List Tuple) (text : List ℕ) → IsSane s → MayApply s o → o.body ≡ Insert first text → IsNewborn s o first text

-- the epoch of an operation that may be applied is kept, and the one that it may open isn't
abbrev pub EpochsKept : Type 0
EpochsKept = (s : Seen) (o : Op) → IsSane s → MayApply s o → IsTrue (is_kept s.epochs.top s.epochs.nodes o.epoch) × IsFalse (is_kept s.epochs.top s.epochs.nodes (Of o.author o.seq))
