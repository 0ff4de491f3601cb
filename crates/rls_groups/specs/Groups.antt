-- The law of a group whose members work by commands and by sessions.
-- Why: docs/DECISIONS.md, 88.
use Rattle.std.specs.Prelude.{◌≡◌, ◌<◌, ◌≤◌, ◌⊎◌, ◌↔◌, ℕ, true, List, [], ◌∷◌, ◌++◌, codes, length, slice_get, Option, Some, None, Result, Ok, IsFalse, Err}
use Rattle.rls_ident.specs.declared.limits.TheConstants.{FILE_BYTES, INPUT_BYTES, MEMBERS}
use Rattle.rls_ident.specs.Lists.{IsIn}
use Rattle.rls_ident.specs.Vectors.{at_most}
use Rattle.rls_ops.specs.declared.message.Message.{Message}
use Rattle.rls_ops.specs.declared.op.Op.{Op}
use Rattle.rls_codec.specs.CodecLaws.{IsMessage}
use Rattle.rls_model.specs.declared.edit.Edit as model
use Rattle.rls_model.specs.declared.edit.Edit.TheVariants as edits
use Rattle.rls_model.specs.Document.{Character, chars}
use Rattle.rls_model.specs.Editing.{edit_fault, made, next_seq}
use Rattle.rls_model.specs.History.{History, count, ops}
use Rattle.rls_model.specs.Laws.{IsFront, IsNamedBy, IsTotalOrder, Shows, edited, list_after, list_deleted, precedes}
use Rattle.rls_model.specs.Legal.{IsLegal}
use Rattle.rls_model.specs.Receiving.{State, accept}
use Rattle.rls_model.specs.Taking.{take_message}
use Rattle.rls_model.specs.WellFormed.{IsEdit, IsLarge}
use Rattle.rls_passages.specs.Lasting.{StandBetween, StayUnlessDeleted}
use Rattle.rls_passages.specs.Passages.{Apart}
use Rattle.rls_seen.specs.Seen.{Seen, vector}
use Rattle.rls_undo.specs.declared.entry.Entry.{Entry}
use Rattle.rls_undo.specs.Undoing.{last_of, planned, refusal}
use Rattle.rls_undo.specs.Undoing.{plan as planned_of}
use Rattle.rls_undo.specs.UndoLaws.{IsUndoneIn}
use Rattle.rls_report.specs.declared.failures.CommandError.{CommandError}
use Rattle.rls_report.specs.declared.failures.CommandError.TheVariants.{TooLarge}
use Rattle.rls_report.specs.declared.failures.LineFault.{LineFault}
use Rattle.rls_report.specs.Reports.{edit_text, take_text}
use Rattle.rls_script.specs.Scripts.{script_of}
use Rattle.rls_script.specs.declared.lines.Line.{Line}
use Rattle.rls_stages.specs.KeptFile.{bytes_over}
use Rattle.rls_stages.specs.Lines.{allowed_by, fault_in, line_by, text_in}
use Rattle.rls_top.specs.declared.words.Command.{Command}
use Rattle.rls_top.specs.declared.words.Command.TheVariants.{OnFile}
use Rattle.rls_top.specs.declared.words.FileCommand.TheVariants as commands
use Rattle.rls_top.specs.Due.{Due, Makes, NoCommand, Stops, shows}
use Rattle.rls_top.specs.Groups.{AllTaken, BeginsWithNew, EqualCountsShowSame, Group, IsFileOf, IsOfMember, IsOrderedBy, NoneRefused, NoneReleased, WaitingMade, due_of}
use Rattle.rls_top.specs.Words.{command_of}
use Rattle.rls_session.specs.declared.orders.Order.TheVariants as orders
use Rattle.rls_codec.specs.Reading.{message_of}
use Rattle.rls_changes.specs.ChangesLaws.{own_changes}
use Rattle.rls_changes.specs.Edits.{edit_changes, performed_edits_in}
use Rattle.rls_steps.specs.Grounds.{over, within, again_edits, back_edits}
use Rattle.rls_session.specs.Answers.{Kind, Sitting, answer, backed, edited as edited_by, made_changes, message_changes, read_line, redone, told, undone_changes, undone_last, with_begun, with_caught_up, with_changes}
use Rattle.rls_session.specs.Courses.{Answered, Course, course, holds}
use Rattle.rls_session.specs.Drafts.{draft_of}
use Rattle.rls_session.specs.InPlace.{draft_lines}
use Rattle.rls_session.specs.InPlace as in_place
use Rattle.rls_session.specs.Replies.{bytes_text, ok_text}
use Rattle.rls_session.specs.Requests.{Request, Does, Takes}
use Rattle.rls_session.specs.SessionLaws.{IsDraftUnawaited, IsOfHistory, IsUnawaited, ShowsChange}
use Rattle.rls_session.specs.Seats.{Seat, at_work, plan, respond, says_at, seated, shown}
use Rattle.rls_session.specs.Sessions.{by_history, by_parts}
use Rattle.rls_session.specs.Turns.{AgainTakesOwn, BackTakesOwn}
use Rattle.rls_groups.specs.Events.{Commands, Deed, Desk, Event, IsSession, IsUsable, Sits, at_desk, replica_at, replied_from, session_at, session_due, stored_by}
use Rattle.rls_groups.specs.Lives.{AreOfGroup, Life, after_deed, begun, deed_in, lived, lived_all}

-- ---- what a session answers

-- this is the text of each member that has accepted as many operations of each, as `text` prints it
abbrev pub IsTextOfAll : Group → List ℕ → List ℕ → Type 0
IsTextOfAll g v reply = (j : ℕ) (t : State) (words : List (List ℕ)) (input : List ℕ) → IsFileOf g j t → count t.history ≡ v → command_of words ≡ Some (OnFile commands.Text) →
    (report : List ℕ) × (due_of g j words input ≡ Some (shows report)) × (reply ≡ bytes_text (codes "text") report)

-- this is answered where nothing is drafted, and nothing is drafted after it
abbrev pub at_seat : {X : Type 0} → Answered (Sitting X) → Answered (Seat X)
at_seat a = says_at a.reply (seated a.state)

-- a change of the editor is shown from then on, or it is refused, and what is shown is as before
abbrev pub IsShown : {X : Type 0} → Kind X → Seat X → ℕ → ℕ → List ℕ → Type 0
IsShown K b at n cs = ShowsChange K b (draft_of at n cs) (respond K b (Does (orders.Change at n cs)))

-- A change of the editor is shown. Every other request is answered once the draft is made: an edit, an undo and steps that are taken back or done
-- again release nothing that waits, and tell what they change alone; such steps take out their own characters alone, or put back what was cut out; `t` shows what others show; a message is taken, with none of its operations
-- refused; and the reply to `s`, with or without counts, is the message that may be handed on. Of the rest the law says nothing.
abbrev pub IsClean : Group → Seat Seen → Request → Type 0
IsClean g b (Does (orders.Edit line)) = let d = at_work by_parts b in let r = read_line by_parts d.state line in respond by_parts b (Does (orders.Edit line)) ≡ at_seat (told d (made_changes r) (edited_by by_parts d r))
IsClean g b (Does (orders.Change at n cs)) = IsShown by_parts b at n cs
IsClean g b (Does orders.Undo) = let e = with_caught_up by_parts (at_work by_parts b) in respond by_parts b (Does orders.Undo) ≡ at_seat (told e (undone_changes by_parts e.state (last_of e.entries)) (undone_last by_parts e))
IsClean g b (Does orders.Back) = let e = with_begun by_parts (at_work by_parts b) in (respond by_parts b (Does orders.Back) ≡ at_seat (told e (edit_changes (back_edits over e.state e.recorded)) (backed by_parts e))) × BackTakesOwn (at_work by_parts b)
IsClean g b (Does orders.Again) = let e = with_begun by_parts (at_work by_parts b) in (respond by_parts b (Does orders.Again) ≡ at_seat (told e (edit_changes (again_edits over e.state e.recorded)) (redone by_parts e))) × AgainTakesOwn (at_work by_parts b)
IsClean g b (Does orders.Close) = Unit {0}
IsClean g b (Does (orders.Point side at n)) = Unit {0}
IsClean g b (Does (orders.Place n)) = Unit {0}
IsClean g b (Does (orders.Spell at)) = Unit {0}
IsClean g b (Does (orders.Locate place)) = Unit {0}
IsClean g b (Does orders.Text) = IsTextOfAll g (vector (at_work by_parts b).state) (respond by_parts b (Does orders.Text)).reply
IsClean g b (Does (orders.Take len)) = Unit {0}
IsClean g b (Does (orders.Send to)) = (message : List ℕ) → IsIn message (replied_from b (Does (orders.Send to))) → (respond by_parts b (Does (orders.Send to))).reply ≡ bytes_text (codes "message") message
IsClean g b (Does (orders.SendTold to told)) = (message : List ℕ) → IsIn message (replied_from b (Does (orders.SendTold to told))) → (respond by_parts b (Does (orders.SendTold to told))).reply ≡ bytes_text (codes "message") message
IsClean g b (Does (orders.Tell on)) = Unit {0}
IsClean g b (Does orders.Stat) = Unit {0}
IsClean g b (Does orders.Costs) = Unit {0}
IsClean g b (Does (orders.Version n)) = Unit {0}
IsClean g b (Does orders.Store) = Unit {0}
IsClean g b (Does orders.Quit) = Unit {0}
IsClean g b (Does orders.Bad) = Unit {0}
IsClean g b (Takes message) = (applied released repeated held : ℕ) ×
    let d = at_work by_parts b in ((respond by_parts b (Takes message)).reply ≡ with_changes d.tells (message_changes by_parts d.state (message_of message)) (take_text applied released repeated held 0))

-- its last replica is to be stored, unless its input is too long, or the file would be
abbrev pub IsSavedOrLong : Course (Sitting Seen) → Result Seen CommandError → Type 0
IsSavedOrLong c ending = (ending ≡ Ok (c.state).state) ⊎ ((ending ≡ Err TooLarge) × ((INPUT_BYTES < c.used) ⊎ (FILE_BYTES < length (bytes_over (c.state).state))))

-- nothing that waits becomes ready by the draft when it is made, nor by one of its edits
abbrev pub IsMadeAlone : Seat Seen → Type 0
IsMadeAlone b = IsUnawaited b × IsDraftUnawaited b

-- a session over a member's file finds a replica there, ends so, and answers each of its requests so; and nothing that waits is released by making
-- what is drafted before a request, and at the end. Its replica stands for a history, so that the laws of sessions hold of it: it does what the session
-- without `e` does with the edits of its drafts, and as long as nobody else edits, `z` and `y` lead through the texts before its groups
-- (`rls_session::laws`)
abbrev pub SessionsClean : Group → Type 0
SessionsClean g = (i : ℕ) (desk : Desk) (input : List ℕ) → IsSession g i desk input → (s : Seen) × (replica_at g i ≡ Ok s) × IsSavedOrLong (session_at by_parts s desk input) (session_due g i desk input).ending
    × let first = seated (at_desk s desk) in holds (respond by_parts) (λ b request. IsMadeAlone b × IsClean g b request) first input × IsMadeAlone (course (respond by_parts) first input).state × ((t : State) × IsOfHistory (at_desk s desk) t)

-- So it is of each session of the group that goes on after a store: what it works on then goes back to nothing that its file has dropped.
abbrev pub DesksUsable : Life → Type 0
DesksUsable l = (i : ℕ) (s : Seen) → replica_at l.group i ≡ Ok s → IsUsable s (l.desks i)

-- ---- what a run that stored its file made of the member's history

-- each of these lines is an edit without a fault at the state after those before it; its operation is accepted, and nothing else happens.
-- So it stands in the history from then on
abbrev pub AreMade : {L : Type 0} → (State → L → Result model.Edit LineFault) → State → List L → State → Type 0
AreMade reads t [] u = u ≡ t
AreMade reads t (l ∷ ls) u = (edit : model.Edit) × (reads t l ≡ Ok edit) × IsEdit edit × (edit_fault t.history edit ≡ None) × IsFront (edited t.history edit) u.history × AreMade reads (accept t (made t.history edit)) ls u

-- the operation is accepted, or waits for causes that aren't there yet
abbrev pub HasOrHolds : State → Op → Type 0
HasOrHolds u o = IsIn o (ops u.history) ⊎ (IsIn o u.waiting × IsFalse (at_most o.context (count u.history)))

-- a message was taken, with all its operations
abbrev pub IsTaken : State → List ℕ → State → Type 0
IsTaken t bytes u = (m : Message) × IsMessage bytes m × (u ≡ (take_message t m).state) × ((o : Op) → IsIn o m.ops → HasOrHolds u o)

-- by the command and its report
abbrev pub IsCommanded : Option Command → List ℕ → List ℕ → State → State → Type 0
IsCommanded (Some (OnFile commands.Edit)) input report t u = (lines : List Line) × (script_of input ≡ Ok lines) × (report ≡ edit_text (length lines) 0 0) × AreMade (line_by fault_in text_in) t lines u
IsCommanded (Some (OnFile commands.Leave)) input report t u = (report ≡ edit_text 1 0 0) × AreMade (allowed_by fault_in) t (edits.Leave ∷ []) u
IsCommanded (Some (OnFile commands.Take)) input report t u = IsTaken t input u
IsCommanded c input report t u = ⊥

-- ---- what a session made of it

-- the state on which it works after this answer
abbrev pub state_after : Answered (Seat State) → State
state_after a = ((a.state).sitting).state

-- by an edit that is allowed: its operation is accepted, and nothing else happens; the reply is `ok` with its number, and its change, if that is told
pub record IsKept (c : Seat State) (request : Request) (edit : model.Edit) : Type 0 where
  pub reply : let d = at_work by_history c in (respond by_history c request).reply ≡ with_changes d.tells (own_changes edit) (ok_text (next_seq (d.state).history))
  pub edit_is : IsEdit edit
  pub fits : edit_fault ((at_work by_history c).state).history edit ≡ None
  pub state : let t = (at_work by_history c).state in state_after (respond by_history c request) ≡ accept t (made t.history edit)

-- By `u`: the last entry, if there is one, is taken back by edits that are made one after another, up to the first that is refused: each has no
-- fault, its operation is accepted, so that it stands in the history from then on, and nothing else happens. If none is refused, just the characters
-- are gone that the entry put in and that were still there, or what it took out stands in its place, and nothing else changed.
pub record IsUndone (t : State) (entry : Option Entry) (u : State) : Type 0 where
  pub edits : AreMade (allowed_by fault_in) t (performed_edits_in t (planned_of t.history entry)) u
  pub text : (e : Entry) → entry ≡ Some e → refusal t (planned t.history e) ≡ None → IsUndoneIn t.history e u.history

-- By `z` and `y`: the group is taken back, or done again, by edits that are made so, one after another.
abbrev pub IsTurned : Sitting State → List model.Edit → State → Type 0
IsTurned d edits u = AreMade (allowed_by fault_in) d.state edits u

-- by a request, once the draft is made
abbrev pub IsAnswered : Seat State → Request → Type 0
IsAnswered c (Does (orders.Edit line)) = (edit : model.Edit) → read_line by_history (at_work by_history c).state line ≡ Ok edit → IsKept c (Does (orders.Edit line)) edit
IsAnswered c (Does (orders.Change at n cs)) = IsShown by_history c at n cs
IsAnswered c (Does orders.Undo) = let d = with_caught_up by_history (at_work by_history c) in IsUndone d.state (last_of d.entries) (state_after (respond by_history c (Does orders.Undo)))
IsAnswered c (Does orders.Back) = let d = with_begun by_history (at_work by_history c) in IsTurned d (back_edits within d.state d.recorded) (state_after (respond by_history c (Does orders.Back)))
IsAnswered c (Does orders.Again) = let d = with_begun by_history (at_work by_history c) in IsTurned d (again_edits within d.state d.recorded) (state_after (respond by_history c (Does orders.Again)))
IsAnswered c (Does orders.Close) = Unit {0}
IsAnswered c (Does (orders.Point side at n)) = Unit {0}
IsAnswered c (Does (orders.Place n)) = Unit {0}
IsAnswered c (Does (orders.Spell at)) = Unit {0}
IsAnswered c (Does (orders.Locate place)) = Unit {0}
IsAnswered c (Does orders.Text) = Unit {0}
IsAnswered c (Does (orders.Take len)) = Unit {0}
IsAnswered c (Does (orders.Send to)) = Unit {0}
IsAnswered c (Does (orders.SendTold to told)) = Unit {0}
IsAnswered c (Does (orders.Tell on)) = Unit {0}
IsAnswered c (Does orders.Stat) = Unit {0}
IsAnswered c (Does orders.Costs) = Unit {0}
IsAnswered c (Does (orders.Version n)) = Unit {0}
IsAnswered c (Does orders.Store) = Unit {0}
IsAnswered c (Does orders.Quit) = Unit {0}
IsAnswered c (Does orders.Bad) = Unit {0}
IsAnswered c (Takes message) = IsTaken (at_work by_history c).state message (state_after (respond by_history c (Takes message)))

-- the history goes on, and what was accepted, or waited for its causes, is accepted, or waits for them
abbrev pub GoesOn : State → State → Type 0
GoesOn t u = IsFront t.history u.history × ((o : Op) → HasOrHolds t o → HasOrHolds u o)

-- What is shown with a draft is made: each edit that the draft means has no fault, its operation is accepted, and nothing else happens; the text is
-- then what was shown; and the history goes on from there to the one that is stored, in which these edits so stand. As lines `i` and `d` they do the
-- same to all that the session works on.
pub record IsDraftMade (u : State) (c : Seat State) : Type 0 where
  pub edits : let t = (c.sitting).state in AreMade (allowed_by fault_in) t (plan by_history t c.draft) (at_work by_history c).state
  pub text : text_in (at_work by_history c).state ≡ shown by_history c
  pub lines : in_place.state_after (answer by_history) c.sitting (draft_lines by_history c) ≡ at_work by_history c
  pub goes_on : GoesOn (at_work by_history c).state u

-- before a request the draft is made, unless a change goes on with it, and nothing is made yet
abbrev pub IsMadeBefore : State → Seat State → Request → Type 0
IsMadeBefore u c (Does (orders.Change at n cs)) = let b = (respond by_history c (Does (orders.Change at n cs))).state in
    (b.sitting ≡ c.sitting) ⊎ ((b.sitting ≡ at_work by_history c) × IsDraftMade u c)
IsMadeBefore u c request = IsDraftMade u c

-- and from what it made the history goes on to the one that is stored
abbrev pub IsStored : State → Seat State → Request → Type 0
IsStored u c request = IsMadeBefore u c request × GoesOn (state_after (respond by_history c request)) u × IsAnswered c request

-- what a command calls for stores a file and has this report
abbrev pub HasReport : Option Due → (List ℕ → Type 0) → Type 0
HasReport None P = ⊥
HasReport (Some NoCommand) P = ⊥
HasReport (Some (Makes stored report refused)) P = P report
HasReport (Some (Stops e)) P = ⊥

-- by the run
abbrev pub IsMeant : Group → ℕ → State → Deed → State → Type 0
IsMeant g i t (Commands words input) u = HasReport (due_of g i words input) (λ report. IsCommanded (command_of words) input report t u)
IsMeant g i t (Sits desk input) u = let first = seated (at_desk t desk) in
    ((session_due g i desk input).replies ≡ (session_at by_history t desk input).replies) × holds (respond by_history) (IsStored u) first input × IsDraftMade u (course (respond by_history) first input).state

-- ---- histories

-- the member's history, with what waits
abbrev pub IsHeld : Life → ℕ → State → Type 0
IsHeld l i t = slice_get l.states i ≡ Some t

-- this is the member's history, or was it at some time
abbrev pub WasHeld : Life → ℕ → History → Type 0
WasHeld l i H = (t : State) × IsHeld l i t × IsFront H t.history

-- each run that stored its file made of the member's history what it says
abbrev pub EachMeant : ℕ → ℕ → List Event → Type 0
EachMeant group members es = (before after : List Event) (e : Event) (s : Seen) → before ++ (e ∷ after) ≡ es → let l = lived_all (begun group members) before in let deed = deed_in l e in e.done ≡ true → stored_by l.group e.member deed ≡ Some s →
    (t : State) × IsHeld l e.member t × IsHeld (lived l e) e.member (after_deed deed t) × IsMeant l.group e.member t deed (after_deed deed t)

-- the member's file stands for its history, which shows its characters in the order of M, and goes on to the one at the end
pub record IsMoment (group members : ℕ) (now end : Life) (M : History) (i : ℕ) : Type 0 where
  pub state : State
  pub held : IsHeld now i state
  pub member : IsOfMember group members now.group i state
  pub ordered : IsOrderedBy M state.history
  pub goes_on : (u : State) × IsHeld end i u × GoesOn state u

-- One total order of all characters: at each moment each member's file stands for a history of that member, which shows its characters in
-- this order, and which stays the beginning of its later ones. So does each history that a member had at some time, also between two stores of
-- a session, and what is shown there with a draft is the text of such a one. Passages that were written apart stand apart in it. Each operation
-- was made by an edit of its author. Each edit does to the list of characters what was asked, and a deletion deletes, wherever it is known, just
-- what was asked. What was inserted stands, in this order, between what was shown before that place and behind it; and it is shown wherever its
-- insertion is known, unless a deletion is known there too, by which somebody that was shown it took it out.
pub record InOneOrder (group members : ℕ) (es : List Event) (l : Life) : Type 0 where
  pub all : History
  pub legal : IsLegal all
  pub total : IsTotalOrder (precedes all) (λ c. IsIn c (chars all))
  pub apart : Apart all
  pub moments : (before after : List Event) (i : ℕ) → before ++ after ≡ es → i < members → IsMoment group members (lived_all (begun group members) before) l all i
  pub pasts : (before after : List Event) (i : ℕ) (H : History) → before ++ after ≡ es → WasHeld (lived_all (begun group members) before) i H → WasHeld l i H × IsOrderedBy all H
  pub drafts : (i : ℕ) (u : State) (c : Seat State) → WasHeld l i u.history → IsDraftMade u c → let t = (at_work by_history c).state in WasHeld l i t.history × IsOrderedBy all t.history × (text_in t ≡ shown by_history c)
  pub made_by_edits : (i : ℕ) (t : State) (o : Op) → IsHeld l i t → IsIn o (ops t.history) → (H : History) × (edit : model.Edit) × WasHeld l o.author (edited H edit) × IsEdit edit × (edit_fault H edit ≡ None) × (made H edit ≡ o)
  pub edits : (i : ℕ) (H : History) (edit : model.Edit) (cs : List Character) → IsEdit edit → edit_fault H edit ≡ None → WasHeld l i (edited H edit) → Shows (precedes all) H cs → Shows (precedes all) (edited H edit) (list_after H edit cs)
  pub deletions : (i j : ℕ) (H K : History) (edit : model.Edit) (cs : List Character) (c : Character) → WasHeld l i H → WasHeld l j K → Shows (precedes all) H cs → IsIn (made H edit) (ops K) → IsIn c (chars K) →
      IsNamedBy K (made H edit) c ↔ IsIn c (list_deleted edit cs)
  pub between : StandBetween all (WasHeld l)
  pub lasting : StayUnlessDeleted all (WasHeld l)

-- ---- the statement

-- Whatever the members of a group do by commands and sessions, each over its own file, whatever fails or stops of it, and however the messages
-- that may be handed on are passed on: no operation is refused, edits release nothing, what waits was made by its author, each message is
-- taken, members whose counts are equal show the same, one order orders the texts of all files at all times, and each edit, each message and each
-- change of an editor whose file was stored stands in the history with the effect that was asked for.
abbrev pub GroupsConverge : Type 0
GroupsConverge = (group members : ℕ) (es : List Event) → IsLarge group → 0 < members → members ≤ MEMBERS → AreOfGroup (begun group members) es → let l = lived_all (begun group members) es in
    BeginsWithNew group members × NoneRefused l.group × NoneReleased l.group × WaitingMade l.group × AllTaken l.group × EqualCountsShowSame l.group × SessionsClean l.group × DesksUsable l × EachMeant group members es × InOneOrder group members es l
