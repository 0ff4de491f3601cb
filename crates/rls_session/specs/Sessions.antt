-- Sessions over what a replica consists of, and over a history and what waits beside it.
-- Why: docs/DECISIONS.md, 128.
use Rattle.std.specs.Prelude.{◌+◌, List, ℕ, slice_get}
use Rattle.rls_model.specs.Document.{idents}
use Rattle.rls_model.specs.Editing.{made, next_seq}
use Rattle.rls_model.specs.Epochs.{greatest}
use Rattle.rls_model.specs.History.{group_of, members_of}
use Rattle.rls_model.specs.Receiving.{State, accept, release_all}
use Rattle.rls_model.specs.Taking.{message_for, message_told, take_message}
use Rattle.rls_seen.specs.Edits.{edit_fault_over, made_over}
use Rattle.rls_seen.specs.Edits as edits
use Rattle.rls_seen.specs.Kept.{dropped}
use Rattle.rls_seen.specs.Messages.{message_over, message_told_over, taken_over}
use Rattle.rls_seen.specs.Over.{released_all}
use Rattle.rls_seen.specs.Seen.{Seen, members, own_count, text_over}
use Rattle.rls_stages.specs.Lines.{fault_in, text_in}
use Rattle.rls_report.specs.Stat.{stat_of, stat_over}
use Rattle.rls_undo.specs.Undoing.{caught_up, caught_up_over, entries_of, entries_over, performed, performed_over, planned, planned_over, refusal, refusal_over, settled, settled_over}
use Rattle.rls_changes.specs.Edits.{edit_changes, performed_edits, performed_edits_in}
use Rattle.rls_changes.specs.Telling.{all_released_changes, all_released_changes_in, taken_changes, taken_changes_in}
use Rattle.rls_steps.specs.Grounds.{over, within, begun_on, recorded_on, kept_on, back_on, again_on, back_edits, again_edits, settled_on}
use Rattle.rls_steps.specs.Sweeping.{kept_within}
use Rattle.rls_session.specs.declared.desk.TheConstants.{KEPT_STEPS, KEPT_CHARACTERS}
use Rattle.rls_anchor.specs.declared.anchor.Anchor.{Anchor}
use Rattle.rls_anchor.specs.Anchors.{anchor_before_over, anchor_over, before, behind, in_front, place, place_over}
use Rattle.rls_anchor.specs.Elsewhere.{located, located_over}
use Rattle.rls_anchor.specs.Anchors as anchors
use Rattle.rls_session.specs.Answers.{Kind, Sitting}
use Rattle.rls_session.specs.Costs.{costs_of, costs_over}
use Rattle.rls_session.specs.Courses.{Course}
use Rattle.rls_session.specs.Cursors.{on_side}
use Rattle.rls_session.specs.Seats.{session_from}

-- ---- what a replica consists of

abbrev pub by_parts : Kind Seen
by_parts = record {
  fault = edit_fault_over;
  made = made_over;
  edited = edits.edited;
  number = λ s. own_count s + 1;
  entries = entries_over;
  planned = planned_over;
  refusal = refusal_over;
  performed = performed_over;
  released = released_all;
  released_changes = all_released_changes;
  taken_changes = taken_changes;
  planned_changes = λ s plan. edit_changes (performed_edits s plan);
  begun = begun_on over;
  recorded = recorded_on over;
  kept = λ s r. kept_within s KEPT_STEPS KEPT_CHARACTERS r;
  backed = back_on over;
  redone = again_on over;
  back_edits = back_edits over;
  again_edits = again_edits over;
  text = text_over;
  anchor = λ s side at. on_side side (anchor_over s at) (anchor_before_over s at);
  place = place_over;
  located = located_over;
  caught_up = caught_up_over;
  group = λ s. s.group;
  members = members;
  taken = taken_over;
  message = message_over;
  message_told = message_told_over;
  stat = stat_over;
  costs = costs_over;
  settled = settled_over;
  settled_anchor = anchors.settled_over;
  settled_steps = settled_on over;
  dropped = dropped;
}

-- the session from what a replica consists of over this input, from store to store
abbrev pub session : Seen → List ℕ → List (Course (Sitting Seen))
session s input = session_from by_parts s input

-- ---- a history and what waits beside it

-- the anchor at a place, of the character before it, and of the one after it
abbrev pub anchor_in : State → ℕ → Anchor
anchor_in t at = behind (greatest t.history) (before (idents t.history) at)

abbrev pub anchor_before_in : State → ℕ → Anchor
anchor_before_in t at = in_front (greatest t.history) (slice_get (idents t.history) at) (anchor_in t at)

abbrev pub by_history : Kind State
by_history = record {
  fault = fault_in;
  made = λ t edit. made t.history edit;
  edited = λ t edit. accept t (made t.history edit);
  number = λ t. next_seq t.history;
  entries = λ t edit. entries_of t.history edit;
  planned = λ t entry. planned t.history entry;
  refusal = refusal;
  performed = performed;
  released = release_all;
  released_changes = all_released_changes_in;
  taken_changes = taken_changes_in;
  planned_changes = λ t plan. edit_changes (performed_edits_in t plan);
  begun = begun_on within;
  recorded = recorded_on within;
  kept = λ s r. kept_on within s KEPT_STEPS KEPT_CHARACTERS r;
  backed = back_on within;
  redone = again_on within;
  back_edits = back_edits within;
  again_edits = again_edits within;
  text = text_in;
  anchor = λ t side at. on_side side (anchor_in t at) (anchor_before_in t at);
  place = λ t a. place t.history a;
  located = λ t a. located t.history a;
  caught_up = λ t entries. caught_up t.history entries;
  group = λ t. group_of t.history;
  members = λ t. members_of t.history;
  taken = take_message;
  message = λ t to. message_for t.history to;
  message_told = λ t to told. message_told t.history to told;
  stat = stat_of;
  costs = costs_of;
  settled = λ t entry. settled t.history entry;
  settled_anchor = λ t a. anchors.settled t.history a;
  settled_steps = settled_on within;
  dropped = λ t. t;
}

-- the session from a history and what waits beside it, from store to store. What is dropped of a replica doesn't change the history
abbrev pub session_in : State → List ℕ → List (Course (Sitting State))
session_in t input = session_from by_history t input
