-- What a session answers to a request, and what it changes.
-- Why: docs/DECISIONS.md, 84.
use Rattle.std.specs.Prelude.{ℕ, Bool, true, false, ◌&&◌, ◌==◌, ◌++◌, List, [], ◌∷◌, length, map, encode_utf8_all, codes, nat_lt, Option, Some, None, option_map, Result, Ok, Err, if◌then◌else◌}
use Rattle.rls_codec.specs.Reading.{message_of}
use Rattle.rls_ops.specs.declared.message.Message.{Message}
use Rattle.rls_ops.specs.declared.op.Op.{Op}
use Rattle.rls_ops.specs.Spelling.{message_bytes}
use Rattle.rls_model.specs.declared.edit.Edit.{Edit}
use Rattle.rls_model.specs.declared.edit.EditError.{EditError}
use Rattle.rls_model.specs.Machine.{Stage}
use Rattle.rls_report.specs.declared.failures.LineFault.{LineFault}
use Rattle.rls_report.specs.declared.failures.LineFault.TheVariants as faults
use Rattle.rls_report.specs.declared.failures.CommandError.TheVariants.{NotMember, Malformed, OtherGroup}
use Rattle.rls_report.specs.Reports.{take_text}
use Rattle.rls_script.specs.declared.lines.Line.{Line}
use Rattle.rls_stages.specs.Lines.{line_by, line_fault}
use Rattle.rls_undo.specs.declared.entry.Entry.{Entry}
use Rattle.rls_undo.specs.Undoing.{undone_by, last_entries, last_of, without_last}
use Rattle.rls_changes.specs.declared.change.Change.{Change}
use Rattle.rls_changes.specs.ChangesLaws.{own_changes}
use Rattle.rls_changes.specs.Edits.{edit_changes}
use Rattle.rls_steps.specs.declared.piece.Step.{Step}
use Rattle.rls_steps.specs.Recorded.{Recorded, unused}
use Rattle.rls_steps.specs.Grounds.{Turned, closed}
use Rattle.rls_steps.specs.Groups.{group_count}
use Rattle.rls_anchor.specs.declared.anchor.Anchor.{Anchor}
use Rattle.rls_session.specs.declared.desk.TheConstants.{KEPT_ENTRIES}
use Rattle.rls_steps.specs.declared.steps.Turn.{Turn}
use Rattle.rls_steps.specs.declared.steps.Turn.TheVariants as turns
use Rattle.rls_session.specs.declared.costs.Costs.{Costs}
use Rattle.rls_session.specs.declared.cursors.Cursor.{Cursor}
use Rattle.rls_session.specs.Costs.{costs_text}
use Rattle.rls_session.specs.Cursors.{cursor_in, cursors_moved, cursors_with, moved}
use Rattle.rls_session.specs.declared.orders.Side.{Side}
use Rattle.rls_session.specs.declared.orders.Side.TheVariants.{Before}
use Rattle.rls_session.specs.declared.orders.Order.{Order}
use Rattle.rls_session.specs.declared.orders.Order.TheVariants as orders
use Rattle.rls_session.specs.Requests.{Request, Does, Takes}
use Rattle.rls_session.specs.Courses.{Answered}
use Rattle.rls_session.specs.ChangeLines.{changes_text}
use Rattle.rls_session.specs.Replies.{telling_text, no_cursor_text, ok_text, undone_text, back_text, again_text, groups_text, nothing_text, cursor_text, anchor_text, located_text, bytes_text, refused_text, failed_text, bad_text, version_text}

-- what a session asks of a state, and how it changes one, whatever states are
pub record Kind (X : Type 0) : Type 0 where
  -- why an edit is refused, if it is; its operation; the state after one that isn't refused; the number of its operation
  pub fault : X → Edit → Option EditError
  pub made : X → Edit → Op
  pub edited : X → Edit → X
  pub number : X → ℕ
  -- what is kept of an edit, so that it can be undone
  pub entries : X → Edit → List Entry
  -- the edits that undo an entry; the first refusal among edits; the state after those before it
  pub planned : X → Entry → List Edit
  pub refusal : X → List Edit → Option EditError
  pub performed : X → List Edit → X
  -- the state after waiting operations are released until none is ready
  pub released : X → X
  -- what changes in the text when they are released, when a message is taken, and by planned edits, up to the first that is refused
  pub released_changes : X → List Change
  pub taken_changes : X → Message → List Change
  pub planned_changes : X → List Edit → List Change
  -- the text
  pub text : X → List ℕ
  -- the anchor at a place, of the character on this side, the place of one, and where one is that comes from elsewhere
  pub anchor : X → Side → ℕ → Anchor
  pub place : X → Anchor → ℕ
  pub located : X → Anchor → Option ℕ
  -- what is recorded, in the greatest epoch if nothing is yet; with an edit that isn't refused, at the state before it; and within bounds
  pub begun : X → Recorded → Recorded
  pub recorded : X → Edit → Recorded → Recorded
  pub kept : X → Recorded → Recorded
  -- the last group of steps taken back, or done again, and the edits that this makes, up to the first that is refused
  pub backed : X → Recorded → Turned X
  pub redone : X → Recorded → Turned X
  pub back_edits : X → Recorded → List Edit
  pub again_edits : X → Recorded → List Edit
  -- entries that have caught up with the renames: they undo the same
  pub caught_up : X → List Entry → List Entry
  -- the group, and the count of its members
  pub group : X → ℕ
  pub members : X → ℕ
  -- what comes of a message, and the message for a member
  pub taken : X → Message → Stage X
  pub message : X → ℕ → Message
  -- and the one for a member that told these counts
  pub message_told : X → ℕ → List ℕ → Message
  -- the numbers, as `stat` prints them
  pub stat : X → List ℕ
  -- what a rename would bring
  pub costs : X → Costs
  -- an entry, an anchor, and what is recorded, taken to the greatest epoch, and the state without what every member has
  pub settled : X → Entry → Entry
  pub settled_anchor : X → Anchor → Anchor
  pub settled_steps : X → Recorded → Recorded
  pub dropped : X → X

-- a state, what undoes the edits of this session, the cursors that were put, what is recorded of its steps, and whether changes are told
pub record Sitting (X : Type 0) : Type 0 where
  pub state : X
  pub entries : List Entry
  pub cursors : List Cursor
  pub recorded : Recorded
  pub tells : Bool

-- the one at the start of a session
abbrev pub sitting_at : {X : Type 0} → X → Sitting X
sitting_at s = record { state = s; entries = []; cursors = []; recorded = unused; tells = false }

-- this is answered, and this is the sitting after it
abbrev pub says : {X : Type 0} → List ℕ → Sitting X → Answered (Sitting X)
says reply d = record { reply = reply; state = d }

-- the same at this state, with these entries, with these cursors, with this recorded, and telling changes or not
abbrev pub with_state : {X : Type 0} → Sitting X → X → Sitting X
with_state d s = record { state = s; entries = d.entries; cursors = d.cursors; recorded = d.recorded; tells = d.tells }

abbrev pub with_entries : {X : Type 0} → Sitting X → List Entry → Sitting X
with_entries d es = record { state = d.state; entries = es; cursors = d.cursors; recorded = d.recorded; tells = d.tells }

abbrev pub with_cursors : {X : Type 0} → Sitting X → List Cursor → Sitting X
with_cursors d cs = record { state = d.state; entries = d.entries; cursors = cs; recorded = d.recorded; tells = d.tells }

abbrev pub with_recorded : {X : Type 0} → Sitting X → Recorded → Sitting X
with_recorded d r = record { state = d.state; entries = d.entries; cursors = d.cursors; recorded = r; tells = d.tells }

abbrev pub with_telling : {X : Type 0} → Sitting X → Bool → Sitting X
with_telling d on = record { state = d.state; entries = d.entries; cursors = d.cursors; recorded = d.recorded; tells = on }

-- what is recorded begins in the greatest epoch
abbrev pub with_begun : {X : Type 0} → Kind X → Sitting X → Sitting X
with_begun K d = with_recorded d (K.begun d.state d.recorded)

-- what is kept has caught up with the renames, so that they cost once what it takes to translate it
abbrev pub with_caught_up : {X : Type 0} → Kind X → Sitting X → Sitting X
with_caught_up K d = with_entries d (K.caught_up d.state d.entries)

abbrev pub with_settled : {X : Type 0} → Kind X → Sitting X → ℕ → Sitting X
with_settled K d n = with_cursors d (cursors_moved (K.settled_anchor d.state) d.cursors n)

-- ---- edits

-- the sitting after an edit that isn't refused
abbrev pub made_sitting : {X : Type 0} → Kind X → Sitting X → Edit → Sitting X
made_sitting K d edit =
    with_recorded (with_entries (with_state d (K.edited d.state edit)) (d.entries ++ K.entries d.state edit)) (K.kept (K.edited d.state edit) (K.recorded d.state edit (K.begun d.state d.recorded)))

-- an edit that is allowed is made
abbrev pub edited : {X : Type 0} → Kind X → Sitting X → Result Edit LineFault → Answered (Sitting X)
edited K d (Ok edit) = says (ok_text (K.number d.state)) (made_sitting K d edit)
edited K d (Err fault) = says (refused_text fault) d

-- the edit that a line means, or its fault
abbrev pub read_line : {X : Type 0} → Kind X → X → Line → Result Edit LineFault
read_line K s line = line_by K.fault K.text s line

-- ---- undoing

-- the planned edits are made, up to the first that is refused
abbrev pub undone_by_plan : {X : Type 0} → Kind X → Sitting X → List Edit → Option EditError → Answered (Sitting X)
undone_by_plan K d plan None = says (undone_text (undone_by plan).edits (undone_by plan).chars) (with_entries (with_state d (K.performed d.state plan)) (without_last d.entries))
undone_by_plan K d plan (Some e) = says (refused_text (line_fault e)) (with_state d (K.performed d.state plan))

-- the last entry is undone, if there is one
abbrev pub undone : {X : Type 0} → Kind X → Sitting X → Option Entry → Answered (Sitting X)
undone K d None = says nothing_text d
undone K d (Some entry) = undone_by_plan K d (K.planned d.state entry) (K.refusal d.state (K.planned d.state entry))

-- after the entries have caught up
abbrev pub undone_last : {X : Type 0} → Kind X → Sitting X → Answered (Sitting X)
undone_last K d = undone K d (last_of d.entries)

-- ---- steps

-- whether there is one
abbrev pub if_steps : {A : Type 0} → List Step → A → A → A
if_steps [] none some = none
if_steps (x ∷ xs) none some = some

-- a group was taken back or done again, to its end or up to the first edit that is refused
abbrev pub turned_reply : (ℕ → List ℕ) → ℕ → Option EditError → List ℕ
turned_reply text steps None = text steps
turned_reply text steps (Some e) = refused_text (line_fault e)

abbrev pub turned : {X : Type 0} → Kind X → Sitting X → (ℕ → List ℕ) → Turned X → Answered (Sitting X)
turned K d text t = says (turned_reply text t.steps t.fault) (with_recorded (with_state d t.state) (K.kept t.state t.recorded))

-- the last group is taken back, if there is one
abbrev pub backed : {X : Type 0} → Kind X → Sitting X → Answered (Sitting X)
backed K d = if_steps (d.recorded).past (says nothing_text d) (turned K d back_text (K.backed d.state d.recorded))

-- the group that was taken back last is done again, if there is one
abbrev pub redone : {X : Type 0} → Kind X → Sitting X → Answered (Sitting X)
redone K d = if_steps (d.recorded).future (says nothing_text d) (turned K d again_text (K.redone d.state d.recorded))

-- one or the other, how many steps are told, and by which edits
abbrev pub turned_group : {X : Type 0} → Kind X → Turn → Sitting X → Answered (Sitting X)
turned_group K turns.Back d = backed K d
turned_group K turns.Again d = redone K d

abbrev pub turn_text : Turn → ℕ → List ℕ
turn_text turns.Back = back_text
turn_text turns.Again = again_text

abbrev pub turn_edits : {X : Type 0} → Kind X → Turn → Sitting X → List Edit
turn_edits K turns.Back d = K.back_edits d.state d.recorded
turn_edits K turns.Again d = K.again_edits d.state d.recorded

-- the open group is ended
abbrev pub ended : {X : Type 0} → Sitting X → Answered (Sitting X)
ended d = let r = closed d.recorded in says (groups_text (group_count r.past) (group_count r.future)) (with_recorded d r)

-- after an edit and after an undo, accepted or not, waiting operations are released until none is ready
abbrev pub rested : {X : Type 0} → Kind X → Answered (Sitting X) → Answered (Sitting X)
rested K a = says a.reply (with_state a.state (K.released (a.state).state))

-- ---- changes

-- those of an edit that is allowed, and of an entry that is undone
abbrev pub made_changes : Result Edit LineFault → List Change
made_changes (Ok edit) = own_changes edit
made_changes (Err fault) = []

abbrev pub undone_changes : {X : Type 0} → Kind X → X → Option Entry → List Change
undone_changes K s None = []
undone_changes K s (Some entry) = K.planned_changes s (K.planned s entry)

-- the reply, and after it what the request changed, if that is told
abbrev pub with_changes : Bool → List Change → List ℕ → List ℕ
with_changes false cs reply = reply
with_changes true cs reply = reply ++ changes_text cs

abbrev pub told : {X : Type 0} → Sitting X → List Change → Answered (Sitting X) → Answered (Sitting X)
told d cs a = says (with_changes d.tells cs a.reply) a.state

-- the same after releases, whose changes come last
abbrev pub told_rested : {X : Type 0} → Kind X → Sitting X → List Change → Answered (Sitting X) → Answered (Sitting X)
told_rested K d cs a = told d (cs ++ K.released_changes (a.state).state) (rested K a)

-- ---- cursors

-- the cursor with this number is put to a place, unless that lies past the end
abbrev pub pointed : {X : Type 0} → Kind X → Sitting X → Side → ℕ → ℕ → Answered (Sitting X)
pointed K d side at n =
    if nat_lt (length (K.text d.state)) at then says (refused_text (faults.Range at (length (K.text d.state)))) d
    else says (cursor_text at) (with_cursors d (cursors_with d.cursors n (K.anchor d.state side at)))

-- where the cursor with this number is, if there is one
abbrev pub place_text : ℕ → Option ℕ → List ℕ
place_text n None = no_cursor_text n
place_text n (Some at) = cursor_text at

abbrev pub placed : {X : Type 0} → Kind X → Sitting X → ℕ → Answered (Sitting X)
placed K d n = says (place_text n (option_map (K.place d.state) (cursor_in d.cursors n))) (with_settled K d n)

-- ---- places that travel

-- the place as a word, unless it lies past the end
abbrev pub spelled : {X : Type 0} → Kind X → X → ℕ → List ℕ
spelled K s at = if nat_lt (length (K.text s)) at then refused_text (faults.Range at (length (K.text s))) else anchor_text (K.anchor s Before at)

-- ---- messages

-- the message is of this group and of as many members
abbrev pub is_for : {X : Type 0} → Kind X → X → Message → Bool
is_for K s m = (m.group == K.group s) && (m.members == K.members s)

-- a message was taken
abbrev pub taken_at : {X : Type 0} → Sitting X → Stage X → Answered (Sitting X)
taken_at d p = says (take_text p.counts.applied p.counts.released p.counts.repeated p.counts.held (length p.counts.refused)) (with_state d p.state)

-- the message, or the place of its first fault
abbrev pub taken : {X : Type 0} → Kind X → Sitting X → Result Message ℕ → Answered (Sitting X)
taken K d (Ok m) = if is_for K d.state m then taken_at d (K.taken d.state m) else says (failed_text (OtherGroup m.group m.members)) d
taken K d (Err at) = says (failed_text (Malformed at)) d

-- what it changes
abbrev pub message_changes : {X : Type 0} → Kind X → X → Result Message ℕ → List Change
message_changes K s (Ok m) = if is_for K s m then K.taken_changes s m else []
message_changes K s (Err at) = []

-- the message for a member
abbrev pub sent : {X : Type 0} → Kind X → X → ℕ → List ℕ
sent K s to = if nat_lt to (K.members s) then bytes_text (codes "message") (message_bytes (K.message s to)) else failed_text (NotMember to)

-- the one for a member that told these counts, if it is one count for each member
abbrev pub sent_told_of : {X : Type 0} → Kind X → X → ℕ → List ℕ → List ℕ
sent_told_of K s to told = if nat_lt to (K.members s) then bytes_text (codes "message") (message_bytes (K.message_told s to told)) else failed_text (NotMember to)

abbrev pub sent_told : {X : Type 0} → Kind X → X → ℕ → List ℕ → List ℕ
sent_told K s to told = if length told == K.members s then sent_told_of K s to told else bad_text

-- ---- the text

abbrev pub text_reply : {X : Type 0} → Kind X → X → List ℕ
text_reply K s = bytes_text (codes "text") (encode_utf8_all (K.text s))

-- ---- the numbers

abbrev pub stat_reply : {X : Type 0} → Kind X → X → List ℕ
stat_reply K s = bytes_text (codes "stat") (K.stat s)

-- ---- all

-- with what is told of it: an edit, an undo, steps that are taken back or done again, and a message
abbrev pub edit_told : {X : Type 0} → Kind X → Sitting X → Result Edit LineFault → Answered (Sitting X)
edit_told K d r = told_rested K d (made_changes r) (edited K d r)

abbrev pub undo_told : {X : Type 0} → Kind X → Sitting X → Answered (Sitting X)
undo_told K d = told_rested K d (undone_changes K d.state (last_of d.entries)) (undone_last K d)

abbrev pub turn_told : {X : Type 0} → Kind X → Turn → Sitting X → Answered (Sitting X)
turn_told K turn d = told_rested K d (edit_changes (turn_edits K turn d)) (turned_group K turn d)

abbrev pub take_told : {X : Type 0} → Kind X → Sitting X → Result Message ℕ → Answered (Sitting X)
take_told K d r = told d (message_changes K d.state r) (taken K d r)

-- orders to store and to quit, one to take what isn't there, and changes (specs/Seats) are never answered here
abbrev pub done : {X : Type 0} → Kind X → Sitting X → Order → Answered (Sitting X)
done K d (orders.Edit line) = edit_told K d (read_line K d.state line)
done K d (orders.Change at n cs) = says [] d
done K d orders.Undo = undo_told K (with_caught_up K d)
done K d orders.Back = turn_told K turns.Back (with_begun K d)
done K d orders.Again = turn_told K turns.Again (with_begun K d)
done K d orders.Close = ended d
done K d (orders.Point side at n) = pointed K d side at n
done K d (orders.Place n) = placed K d n
done K d (orders.Spell at) = says (spelled K d.state at) d
done K d (orders.Locate place) = says (located_text (K.located d.state place)) d
done K d orders.Text = says (text_reply K d.state) d
done K d (orders.Take len) = says [] d
done K d (orders.Send to) = says (sent K d.state to) d
done K d (orders.SendTold to told) = says (sent_told K d.state to told) d
done K d orders.Stat = says (stat_reply K d.state) d
done K d orders.Costs = says (costs_text (K.costs d.state)) d
done K d (orders.Version n) = says (version_text n) d
done K d orders.Store = says [] d
done K d (orders.Tell on) = says (telling_text on) (with_telling d on)
done K d orders.Quit = says [] d
done K d orders.Bad = says bad_text d

unfoldable pub answer : {X : Type 0} → Kind X → Sitting X → Request → Answered (Sitting X)
answer K d (Does order) = done K d order
answer K d (Takes message) = take_told K d (message_of message)

-- ---- storing

-- what the session goes back to, taken to the greatest epoch; of what undoes edits the last part alone
abbrev pub settled_sitting : {X : Type 0} → Kind X → Sitting X → Sitting X
settled_sitting K d = record { state = d.state; entries = map (K.settled d.state) (last_entries KEPT_ENTRIES d.entries); cursors = map (moved (K.settled_anchor d.state)) d.cursors; recorded = K.settled_steps d.state (K.begun d.state d.recorded); tells = d.tells }

-- after a store it is so, and what every member has is dropped
abbrev pub resumed : {X : Type 0} → Kind X → Sitting X → Sitting X
resumed K d = with_state (settled_sitting K d) (K.dropped d.state)
