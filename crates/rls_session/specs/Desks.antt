-- What the code keeps of a session.
use Rattle.std.specs.Prelude.{◌≡◌, ℕ, Bool, List, [], ◌∷◌, IsTrue, Option, Result, Ok, Err}
use Rattle.rls_ident.specs.declared.epoch_name.EpochName.{EpochName}
use Rattle.rls_model.specs.declared.edit.EditError.{EditError}
use Rattle.rls_model.specs.declared.edit.EditError.TheVariants as edits
use Rattle.rls_seen.specs.Seen.{Seen}
use Rattle.rls_replica.specs.Names.{keeps}
use Rattle.rls_undo.specs.declared.entry.Entry.{Entry}
use Rattle.rls_undo.specs.Plans.{epoch_in}
use Rattle.rls_undo.specs.Undoing.{plan_over}
use Rattle.rls_changes.specs.declared.change.Change.{Change}
use Rattle.rls_changes.specs.Edits.{edit_changes, performed_edits}
use Rattle.rls_steps.specs.Labelled.{Names}
use Rattle.rls_steps.specs.Recorded.{Recorded}
use Rattle.rls_session.specs.declared.cursors.Cursor.{Cursor}
use Rattle.rls_session.specs.Cursors.{AreAnchored}
use Rattle.rls_stages.specs.Lines.{line_fault}
use Rattle.rls_steps.specs.declared.steps.StepError.{StepError}
use Rattle.rls_steps.specs.declared.steps.StepError.TheVariants as steps
use Rattle.rls_steps.specs.declared.steps.Turn.{Turn}
use Rattle.rls_session.specs.Answers.{Sitting, turn_text, with_recorded}
use Rattle.rls_session.specs.Replies.{nothing_text, refused_text}
use Rattle.rls_session.specs.Sessions.{by_parts}

abbrev pub sitting_of : Seen → List Entry → List Cursor → Recorded → Bool → Sitting Seen
sitting_of s es cs r tells = record { state = s; entries = es; cursors = cs; recorded = r; tells = tells }

-- the epoch of each entry is kept
abbrev pub AreUndoable : Seen → List Entry → Type 0
AreUndoable s [] = Unit {0}
AreUndoable s (e ∷ es) = IsTrue (keeps s (epoch_in e)) × AreUndoable s es

-- nothing that a session goes back to was dropped: the epochs of its entries and of its cursors are kept
pub record IsWhole (s : Seen) (es : List Entry) (cs : List Cursor) : Type 0 where
  pub undoable : AreUndoable s es
  pub anchored : AreAnchored s cs

-- the epoch of these names is kept, if there are names
abbrev pub AreKept : Seen → EpochName → Names → Type 0
AreKept s e [] = Unit {0}
AreKept s e (n ∷ ns) = IsTrue (keeps s e)

-- the reply tells the fault of this refused edit, which isn't want of memory
abbrev pub TellsFault : EditError → List ℕ → Type 0
TellsFault edits.OutOfMemory reply = ⊥
TellsFault e reply = reply ≡ refused_text (line_fault e)

-- a group was taken back or done again in this sitting, to its end or not, and the reply tells it
abbrev pub IsTurnTold : Turn → Result ℕ StepError → Sitting Seen → List ℕ → Sitting Seen → Type 0
IsTurnTold turn (Ok n) d reply e = (reply ≡ turn_text turn n) × (e ≡ with_recorded d (by_parts.kept d.state d.recorded))
IsTurnTold turn (Err steps.Nothing) d reply e = (reply ≡ nothing_text) × (e ≡ d)
IsTurnTold turn (Err (steps.Edit f)) d reply e = TellsFault f reply × (e ≡ with_recorded d (by_parts.kept d.state d.recorded))
IsTurnTold turn (Err f) d reply e = ⊥

-- what is changed by undoing the entry, if there is one, up to the first edit that is refused
abbrev pub planned_changes : Seen → Option Entry → List Change
planned_changes s entry = edit_changes (performed_edits s (plan_over s entry))
